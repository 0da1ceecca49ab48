-- Runs of digits: the numbers that they spell, and their zeros at either end.
use Rattle.std.proofs.Common.{zero, inl, inr, ◌⊎◌, IsTrue, ◌&&◌, ◌≡◌, refl, sym, ◌∙◌, ap, ap₂, subst, ℕ, suc, ◌+◌, ◌-◌, ◌*◌, ◌^◌, ◌<◌, ◌≤◌, Bool, true, false, cond, List, [], ◌∷◌, ◌++◌, length, take, drop, get_or, arith, ◌==◌, if◌then◌else◌}
use Rattle.std.specs.Str.{all_ascii_digits}
use Rattle.std.specs.Char.{is_ascii_digit}
use Rattle.std.specs.List.{All, prefix_len}
use Rattle.std.proofs.lemmas.List.Elements.{All-head, All-tail, All-nil, All-cons}
use Rattle.std.proofs.lemmas.Bool.Decides.{eqb_tells}
use Rattle.std.proofs.lemmas.List.{nil_from_length}
use Rattle.std.proofs.Math.Seq.{drop-cons, take-suc}
use Rattle.std.proofs.Math.Nat.{mul_assoc, pow-suc, mul-le-mul_left}
use Rattle.std.proofs.lemmas.Nat.{pow-add}
use Rattle.std.proofs.lemmas.Str.Parse.{tells_all_ascii_digits}
use Rattle.frac_text.specs.Digits.{front_digits, number_after, without_first_zeros, without_last_zeros, before_kept}
use Rattle.frac_text.specs.Grammar.{AreDigits}

-- a digit
pub record IsDigit (byte : ℕ) : Type 0 where
  pub at_least_zero : 48 ≤ byte
  pub at_most_nine : byte ≤ 57

pub AreDigits-front : (digit : ℕ) (digits : List ℕ) → AreDigits (digit ∷ digits) → IsDigit digit
AreDigits-front digit digits h = let p = tells_all_ascii_digits.parts digit digits h in record { at_least_zero = omega (arith, p.0); at_most_nine = omega (arith, p.0) }

pub AreDigits-rest : (digit : ℕ) (digits : List ℕ) → AreDigits (digit ∷ digits) → AreDigits digits
AreDigits-rest digit digits h = (tells_all_ascii_digits.parts digit digits h).1

pub AreDigits-at : (digits : List ℕ) (i : ℕ) → AreDigits digits → i < length digits → IsDigit (get_or digits i 0)
AreDigits-at [] i h p = absurd (omega arith)
AreDigits-at (digit ∷ digits) zero h p = AreDigits-front digit digits h
AreDigits-at (digit ∷ digits) (suc i) h p = AreDigits-at digits i (AreDigits-rest digit digits h) (omega arith)

AreDigits-more : (digit : ℕ) (digits : List ℕ) → IsTrue (is_ascii_digit digit) → AreDigits digits → AreDigits (digit ∷ digits)
AreDigits-more digit digits h rest = ap₂ ◌&&◌ h rest

pub both_of : (a b : Bool) → (a && b) ≡ true → (a ≡ true) × (b ≡ true)
both_of true b h = (refl, h)
both_of false b h = absurd cc

-- the same of each byte
abbrev pub EachDigit : List ℕ → Type 0
EachDigit bytes = All (λ byte. IsTrue (is_ascii_digit byte)) bytes

pub AreDigits-from_All : (bytes : List ℕ) → EachDigit bytes → AreDigits bytes
AreDigits-from_All [] h = refl
AreDigits-from_All (byte ∷ bytes) h =
    let P : ℕ → Type 0 = λ b. IsTrue (is_ascii_digit b) in
    AreDigits-more byte bytes (All-head P byte bytes h) (AreDigits-from_All bytes (All-tail P byte bytes h))

pub All-from_AreDigits : (bytes : List ℕ) → AreDigits bytes → EachDigit bytes
All-from_AreDigits [] h = All-nil (λ b. IsTrue (is_ascii_digit b))
All-from_AreDigits (byte ∷ bytes) h =
    let P : ℕ → Type 0 = λ b. IsTrue (is_ascii_digit b) in
    let p = both_of (is_ascii_digit byte) (all_ascii_digits bytes) h in
    All-cons P byte bytes p.0 (All-from_AreDigits bytes p.1)

pub AreDigits-append : (front rest : List ℕ) → AreDigits front → AreDigits rest → AreDigits (front ++ rest)
AreDigits-append [] rest h k = k
AreDigits-append (digit ∷ front) rest h k =
    let p = both_of (is_ascii_digit digit) (all_ascii_digits front) h in
    AreDigits-more digit (front ++ rest) p.0 (AreDigits-append front rest p.1 k)

pub AreDigits-take : (n : ℕ) (digits : List ℕ) → AreDigits digits → AreDigits (take n digits)
AreDigits-take zero digits h = refl
AreDigits-take (suc n) [] h = refl
AreDigits-take (suc n) (digit ∷ digits) h =
    let p = both_of (is_ascii_digit digit) (all_ascii_digits digits) h in
    AreDigits-more digit (take n digits) p.0 (AreDigits-take n digits p.1)

pub AreDigits-drop : (n : ℕ) (digits : List ℕ) → AreDigits digits → AreDigits (drop n digits)
AreDigits-drop zero digits h = h
AreDigits-drop (suc n) [] h = h
AreDigits-drop (suc n) (digit ∷ digits) h = AreDigits-drop n digits (AreDigits-rest digit digits h)

first_by : (b : Bool) (digit : ℕ) (digits : List ℕ) → AreDigits (digit ∷ digits) → AreDigits (without_first_zeros digits) → AreDigits (if b then without_first_zeros digits else digit ∷ digits)
first_by true digit digits h k = k
first_by false digit digits h k = h

pub AreDigits-without_first_zeros : (digits : List ℕ) → AreDigits digits → AreDigits (without_first_zeros digits)
AreDigits-without_first_zeros [] h = h
AreDigits-without_first_zeros (digit ∷ digits) h = first_by (digit == 48) digit digits h (AreDigits-without_first_zeros digits (AreDigits-rest digit digits h))

last_by : (b : Bool) (digit : ℕ) → IsTrue (is_ascii_digit digit) → AreDigits (if b then [] else digit ∷ [])
last_by true digit h = refl
last_by false digit h = AreDigits-more digit [] h refl

kept_by : (digit : ℕ) (kept : List ℕ) → IsTrue (is_ascii_digit digit) → AreDigits kept → AreDigits (before_kept digit kept)
kept_by digit [] h k = last_by (digit == 48) digit h
kept_by digit (d ∷ kept) h k = AreDigits-more digit (d ∷ kept) h k

pub AreDigits-without_last_zeros : (digits : List ℕ) → AreDigits digits → AreDigits (without_last_zeros digits)
AreDigits-without_last_zeros [] h = h
AreDigits-without_last_zeros (digit ∷ digits) h =
    let p = both_of (is_ascii_digit digit) (all_ascii_digits digits) h in
    kept_by digit (without_last_zeros digits) p.0 (AreDigits-without_last_zeros digits p.1)

-- leaving zeros out makes no run longer
first_len_by : (b : Bool) (digit : ℕ) (digits : List ℕ) → length (without_first_zeros digits) ≤ length digits → length (if b then without_first_zeros digits else digit ∷ digits) ≤ suc (length digits)
first_len_by true digit digits h = omega arith
first_len_by false digit digits h = omega arith

pub length-without_first_zeros-le : (digits : List ℕ) → length (without_first_zeros digits) ≤ length digits
length-without_first_zeros-le [] = omega arith
length-without_first_zeros-le (digit ∷ digits) = first_len_by (digit == 48) digit digits (length-without_first_zeros-le digits)

last_len_by : (b : Bool) (digit : ℕ) → length (if b then [] else digit ∷ []) ≤ 1
last_len_by true digit = omega arith
last_len_by false digit = omega arith

kept_len : (digit : ℕ) (kept : List ℕ) → length (before_kept digit kept) ≤ suc (length kept)
kept_len digit [] = last_len_by (digit == 48) digit
kept_len digit (d ∷ kept) = omega arith

pub length-without_last_zeros-le : (digits : List ℕ) → length (without_last_zeros digits) ≤ length digits
length-without_last_zeros-le [] = omega arith
length-without_last_zeros-le (digit ∷ digits) = let more = kept_len digit (without_last_zeros digits) in let rest = length-without_last_zeros-le digits in omega (arith, more, rest)

-- each further digit makes the number greater or leaves it
pub number_after-le : (n : ℕ) (digits : List ℕ) → n ≤ number_after n digits
number_after-le n [] = omega arith
number_after-le n (digit ∷ digits) = omega (arith, number_after-le (n * 10 + (digit - 48)) digits)

eqb-from_distinct : (a b : ℕ) → (a ≡ b → ⊥) → (a == b) ≡ false
eqb-from_distinct a b h = elim (eqb_tells a b) [ inl p ↦ absurd (h p.1) | inr p ↦ p.0 ]

-- zeros at the end
last_zero : (digits : List ℕ) → without_last_zeros (digits ++ 48 ∷ []) ≡ without_last_zeros digits
last_zero [] = refl
last_zero (digit ∷ digits) = ap (before_kept digit) (last_zero digits)

not_zero : (digit : ℕ) → (digit == 48) ≡ false → without_last_zeros (digit ∷ []) ≡ digit ∷ []
not_zero digit h = ap (λ (b : Bool). if b then [] else digit ∷ []) h

last_kept : (digits : List ℕ) (digit : ℕ) → (digit == 48) ≡ false → without_last_zeros (digits ++ digit ∷ []) ≡ digits ++ digit ∷ []
last_kept [] digit h = not_zero digit h
last_kept (d ∷ []) digit h = ap (before_kept d) (not_zero digit h)
last_kept (d ∷ e ∷ digits) digit h = ap (before_kept d) (last_kept (e ∷ digits) digit h)

-- the first digits, where the last of them is a zero, and where it is none
zero_at : (digits : List ℕ) (i : ℕ) → i < length digits → get_or digits i 0 ≡ 48 → without_last_zeros (take i digits) ≡ without_last_zeros (take (suc i) digits)
zero_at digits i h e =
    sym (ap without_last_zeros (take-suc digits i 0 h ∙ ap (λ d. take i digits ++ d ∷ []) e) ∙ last_zero (take i digits))

digit_at : (digits : List ℕ) (i : ℕ) → i < length digits → (get_or digits i 0 == 48) ≡ false → without_last_zeros (take (suc i) digits) ≡ take (suc i) digits
digit_at digits i h e =
    let cut = take-suc digits i 0 h in
    ap without_last_zeros cut ∙ (last_kept (take i digits) (get_or digits i 0) e ∙ sym cut)

pub without_last_zeros-zero : (digits : List ℕ) (len : ℕ) → 0 < len → len ≤ length digits → get_or digits (len - 1) 0 ≡ 48 → without_last_zeros (take (len - 1) digits) ≡ without_last_zeros (take len digits)
without_last_zeros-zero digits zero p h e = absurd (omega arith)
without_last_zeros-zero digits (suc i) p h e =
    let before : suc i - 1 ≡ i = omega arith in
    ap (λ j. without_last_zeros (take j digits)) before ∙ zero_at digits i (omega arith) (sym (ap (λ j. get_or digits j 0) before) ∙ e)

pub without_last_zeros-digit : (digits : List ℕ) (len : ℕ) → 0 < len → len ≤ length digits → (get_or digits (len - 1) 0 ≡ 48 → ⊥) → without_last_zeros (take len digits) ≡ take len digits
without_last_zeros-digit digits zero p h n = absurd (omega arith)
without_last_zeros-digit digits (suc i) p h n =
    let before : suc i - 1 ≡ i = omega arith in
    digit_at digits i (omega arith) (eqb-from_distinct (get_or digits i 0) 48 (λ e. n (ap (λ j. get_or digits j 0) before ∙ e)))

-- one more digit
pub number_after-drop : (n : ℕ) (digits : List ℕ) (i : ℕ) → i < length digits → number_after n (drop i digits) ≡ number_after (n * 10 + (get_or digits i 0 - 48)) (drop (suc i) digits)
number_after-drop n digits i h = ap (number_after n) (drop-cons digits i 0 h)

pub number_after-drop_le : (n : ℕ) (digits : List ℕ) (i : ℕ) → i < length digits → n * 10 + (get_or digits i 0 - 48) ≤ number_after n (drop i digits)
number_after-drop_le n digits i h = subst (λ m. n * 10 + (get_or digits i 0 - 48) ≤ m) (sym (number_after-drop n digits i h)) (number_after-le (n * 10 + (get_or digits i 0 - 48)) (drop (suc i) digits))

-- zeros in front
by_zero : (b : Bool) (digit : ℕ) (front rest : List ℕ) → (without_first_zeros front ≡ [] → without_first_zeros (front ++ rest) ≡ without_first_zeros rest) → (if b then without_first_zeros front else digit ∷ front) ≡ [] → (if b then without_first_zeros (front ++ rest) else digit ∷ (front ++ rest)) ≡ without_first_zeros rest
by_zero true digit front rest more h = more h
by_zero false digit front rest more h = absurd cc

pub without_first_zeros-append_zeros : (front rest : List ℕ) → without_first_zeros front ≡ [] → without_first_zeros (front ++ rest) ≡ without_first_zeros rest
without_first_zeros-append_zeros [] rest h = refl
without_first_zeros-append_zeros (digit ∷ front) rest h = by_zero (digit == 48) digit front rest (without_first_zeros-append_zeros front rest) h

by_digit : (b : Bool) (digit : ℕ) (front rest : List ℕ) → (0 < length (without_first_zeros front) → without_first_zeros (front ++ rest) ≡ without_first_zeros front ++ rest) → 0 < length (if b then without_first_zeros front else digit ∷ front) → (if b then without_first_zeros (front ++ rest) else digit ∷ (front ++ rest)) ≡ (if b then without_first_zeros front else digit ∷ front) ++ rest
by_digit true digit front rest more h = more h
by_digit false digit front rest more h = refl

pub without_first_zeros-append_len : (front rest : List ℕ) → length (without_first_zeros front) ≡ 0 → without_first_zeros (front ++ rest) ≡ without_first_zeros rest
without_first_zeros-append_len front rest h = without_first_zeros-append_zeros front rest (nil_from_length (without_first_zeros front) h)

pub without_first_zeros-append : (front rest : List ℕ) → 0 < length (without_first_zeros front) → without_first_zeros (front ++ rest) ≡ without_first_zeros front ++ rest
without_first_zeros-append [] rest h = absurd (omega arith)
without_first_zeros-append (digit ∷ front) rest h = by_digit (digit == 48) digit front rest (without_first_zeros-append front rest) h

-- powers of ten
pub ten_pos : (k : ℕ) → 1 ≤ 10 ^ k
ten_pos zero = omega arith
ten_pos (suc k) = let e = pow-suc 10 k in let h = ten_pos k in omega (arith, e, h)

le_times : (a b : ℕ) → 1 ≤ b → a ≤ a * b
le_times a b h = let e = mul-le-mul_left a h in omega (arith, e)

pub tens_more : (n k : ℕ) → n * 10 ^ suc k ≡ n * 10 ^ k * 10
tens_more n k = ap (λ p. n * p) (pow-suc 10 k) ∙ sym (mul_assoc n (10 ^ k) 10)

pub tens-le : (n k m : ℕ) → k ≤ m → n * 10 ^ k ≤ n * 10 ^ m
tens-le n k m h =
    let j : ℕ = m - k in
    let e : 10 ^ m ≡ 10 ^ k * 10 ^ j = ap (λ i. 10 ^ i) (omega arith) ∙ pow-add 10 k j in
    let one : 1 ≤ 10 ^ j = ten_pos j in
    mul-le-mul_left n (subst (λ p. 10 ^ k ≤ p) (sym e) (le_times (10 ^ k) (10 ^ j) one))

-- the digits in front of other bytes
front_by : (b : Bool) (byte : ℕ) (bytes : List ℕ) (n : ℕ) → IsTrue (is_ascii_digit byte) ⊎ (b ≡ false) → AreDigits (take n bytes) → AreDigits (take (cond b (1 + n) 0) (byte ∷ bytes))
front_by true byte bytes n (inl h) k =
    let next : suc n ≡ 1 + n = omega arith in
    subst (λ m. AreDigits (take m (byte ∷ bytes))) next (AreDigits-more byte (take n bytes) h k)
front_by true byte bytes n (inr h) k = absurd cc
front_by false byte bytes n h k = refl

tested : (b : Bool) → (b ≡ true) ⊎ (b ≡ false)
tested true = inl refl
tested false = inr refl

pub AreDigits-front_digits : (bytes : List ℕ) → AreDigits (front_digits bytes)
AreDigits-front_digits [] = refl
AreDigits-front_digits (byte ∷ bytes) = front_by (is_ascii_digit byte) byte bytes (prefix_len is_ascii_digit bytes) (tested (is_ascii_digit byte)) (AreDigits-front_digits bytes)
