-- Number texts read from the left are those of the grammar: the way from the grammar to the reader.
use Rattle.std.proofs.Common.{inl, inr, ◌⊎◌, ◌≡◌, refl, sym, ◌∙◌, ap, ap₂, subst, ℕ, suc, ◌+◌, ◌<◌, ◌≤◌, Bool, true, false, cond, ◌&&◌, ◌||◌, List, [], ◌∷◌, ◌++◌, length, take, drop, arith, ◌==◌, if◌then◌else◌, nat_lt, append-nil, ℤ, Some, None, option_map}
use Rattle.std.specs.Char.{is_ascii_digit}
use Rattle.std.specs.List.{prefix_len}
use Rattle.std.specs.Str.{all_ascii_digits}
use Rattle.std.proofs.lemmas.Bool.Decides.{nat_tests}
use Rattle.std.proofs.Math.Seq.{take-append_seam, drop-append_seam}
use Rattle.frac128.specs.Numbers.{signed}
use Rattle.frac_text.specs.Digits.{number, front_digits, behind_digits}
use Rattle.frac_text.specs.Grammar.{AreDigits, IsSign, none, plus_sign, minus_sign, IsFraction, no_point, with_point, IsExponent, no_exponent, with_exponent, SpellsDecimal, SpellsRatio, Spells, plus, minus, point, slash, lower_e, upper_e, max_len, max_exponent_len}
use Rattle.frac_text.specs.Number.{Number, decimal, ratio}
use Rattle.frac_text.specs.Reading.{is_negative, behind_sign, ratio_of, digits_of_exponent, exponent_of, decimal_of, number_from, unsigned_number, number_of}
use Rattle.frac_text.proofs.Runs.{IsDigit, AreDigits-front, both_of}

-- digits end where no digit follows
pub NoDigit : List ℕ → Type 0
NoDigit rest = prefix_len is_ascii_digit rest ≡ 0

counted : (b : Bool) (n : ℕ) → b ≡ true → cond b (1 + n) 0 ≡ suc n
counted true n h = omega arith
counted false n h = absurd cc

prefix_len-digits : (digits rest : List ℕ) → AreDigits digits → NoDigit rest → prefix_len is_ascii_digit (digits ++ rest) ≡ length digits
unfolding NoDigit
prefix_len-digits [] rest h e = e
prefix_len-digits (digit ∷ digits) rest h e =
    let p = both_of (is_ascii_digit digit) (all_ascii_digits digits) h in
    counted (is_ascii_digit digit) (prefix_len is_ascii_digit (digits ++ rest)) p.0 ∙ ap suc (prefix_len-digits digits rest p.1 e)

pub front_digits-append : (digits rest : List ℕ) → AreDigits digits → NoDigit rest → front_digits (digits ++ rest) ≡ digits
front_digits-append digits rest h e = ap (λ n. take n (digits ++ rest)) (prefix_len-digits digits rest h e) ∙ take-append_seam digits rest

pub behind_digits-append : (digits rest : List ℕ) → AreDigits digits → NoDigit rest → behind_digits (digits ++ rest) ≡ rest
behind_digits-append digits rest h e = ap (λ n. drop n (digits ++ rest)) (prefix_len-digits digits rest h e) ∙ drop-append_seam digits rest

pub number_from-digits : (negative : Bool) (digits rest : List ℕ) → AreDigits digits → NoDigit rest → unsigned_number negative (digits ++ rest) ≡ number_from negative digits rest
number_from-digits negative digits rest h e = ap₂ (number_from negative) (front_digits-append digits rest h e) (behind_digits-append digits rest h e)

-- what begins with no digit
stopped : (b : Bool) (n : ℕ) → b ≡ false → cond b (1 + n) 0 ≡ 0
stopped true n h = absurd cc
stopped false n h = refl

pub NoDigit-cons : (byte : ℕ) (bytes : List ℕ) → is_ascii_digit byte ≡ false → NoDigit (byte ∷ bytes)
unfolding NoDigit
NoDigit-cons byte bytes h = stopped (is_ascii_digit byte) (prefix_len is_ascii_digit bytes) h

pub NoDigit-nil : NoDigit []
unfolding NoDigit
NoDigit-nil = refl

NoDigit-exponent : (power : List ℕ) (exponent : ℤ) → IsExponent power exponent → NoDigit power
NoDigit-exponent power exponent no_exponent = NoDigit-nil
NoDigit-exponent power exponent (with_exponent s) =
    let no : is_ascii_digit s.letter ≡ false = elim s.letter_is [ inl e ↦ ap is_ascii_digit e | inr e ↦ ap is_ascii_digit e ] in
    subst NoDigit (sym s.bytes_are) (NoDigit-cons s.letter (s.sign ++ s.digits) no)

NoDigit-fraction : (fraction behind power : List ℕ) (exponent : ℤ) → IsFraction fraction behind → IsExponent power exponent → NoDigit (fraction ++ power)
NoDigit-fraction fraction behind power exponent no_point e = NoDigit-exponent power exponent e
NoDigit-fraction fraction behind power exponent (with_point digits h) e = NoDigit-cons point (digits ++ power) refl

-- a choice by a test that is known
pub taken : {A : Type 0} (b : Bool) (x y : A) → b ≡ true → (if b then x else y) ≡ x
taken true x y h = refl
taken false x y h = absurd cc

pub left_out : {A : Type 0} (b : Bool) (x y : A) → b ≡ false → (if b then x else y) ≡ y
left_out true x y h = absurd cc
left_out false x y h = refl

-- bytes that begin with no sign
record NoSign (bytes : List ℕ) : Type 0 where
  not_negative : is_negative bytes ≡ false
  whole : behind_sign bytes ≡ bytes

NoSign-digit : (digit : ℕ) (bytes : List ℕ) → IsDigit digit → NoSign (digit ∷ bytes)
NoSign-digit digit bytes d =
    let least = d.at_least_zero in
    let no : (digit == minus) ≡ false = grind (arith, nat_tests, least) in
    let neither : (digit == plus || digit == minus) ≡ false = grind (arith, nat_tests, least) in
    record { not_negative = no; whole = left_out (digit == plus || digit == minus) bytes (digit ∷ bytes) neither }

NoSign-digits : (digits rest : List ℕ) → AreDigits digits → 0 < length digits → NoSign (digits ++ rest)
NoSign-digits [] rest h e = absurd (omega arith)
NoSign-digits (digit ∷ digits) rest h e = NoSign-digit digit (digits ++ rest) (AreDigits-front digit digits h)

NoSign-fraction : (fraction behind rest : List ℕ) → IsFraction fraction behind → 0 < length behind → NoSign (fraction ++ rest)
NoSign-fraction fraction behind rest no_point e = absurd (omega arith)
NoSign-fraction fraction behind rest (with_point digits h) e = record { not_negative = refl; whole = refl }

sign_read : (sign body : List ℕ) (negative : Bool) → IsSign sign negative → NoSign body → is_negative (sign ++ body) ≡ negative
sign_read sign body negative none n = n.not_negative
sign_read sign body negative plus_sign n = refl
sign_read sign body negative minus_sign n = refl

body_read : (sign body : List ℕ) (negative : Bool) → IsSign sign negative → NoSign body → behind_sign (sign ++ body) ≡ body
body_read sign body negative none n = n.whole
body_read sign body negative plus_sign n = refl
body_read sign body negative minus_sign n = refl

-- exponents
digits_read : (negative : Bool) (digits : List ℕ) → AreDigits digits → 0 < length digits → length digits ≤ max_exponent_len → digits_of_exponent negative digits ≡ Some (signed negative (number digits))
digits_read negative digits h some few =
    let counted_up : (nat_lt 0 (length digits)) ≡ true = grind (arith, nat_tests) in
    let short : (nat_lt (length digits) (max_exponent_len + 1)) ≡ true = grind (arith, nat_tests) in
    taken (all_ascii_digits digits && nat_lt 0 (length digits) && nat_lt (length digits) (max_exponent_len + 1)) (Some (signed negative (number digits))) None
    (ap₂ ◌&&◌ (ap₂ ◌&&◌ h counted_up) short)

letter_read : (letter : ℕ) → (letter ≡ lower_e) ⊎ (letter ≡ upper_e) → (letter == lower_e || letter == upper_e) ≡ true
letter_read letter (inl e) = ap (λ l. l == lower_e || l == upper_e) e
letter_read letter (inr e) = ap (λ l. l == lower_e || l == upper_e) e

exponent_read : (power : List ℕ) (exponent : ℤ) → IsExponent power exponent → exponent_of power ≡ Some exponent
exponent_read power exponent no_exponent = refl
exponent_read power exponent (with_exponent s) =
    let body = s.sign ++ s.digits in
    let no_sign : NoSign s.digits = subst NoSign (append-nil s.digits) (NoSign-digits s.digits [] s.are_digits s.not_empty) in
    let letter = taken (s.letter == lower_e || s.letter == upper_e) (digits_of_exponent (is_negative body) (behind_sign body)) None (letter_read s.letter s.letter_is) in
    ap exponent_of s.bytes_are ∙ (letter ∙ (ap₂ digits_of_exponent (sign_read s.sign s.digits s.negative s.sign_is no_sign) (body_read s.sign s.digits s.negative s.sign_is no_sign)
    ∙ (digits_read s.negative s.digits s.are_digits s.not_empty s.not_long ∙ ap Some (sym s.value))))

-- decimals
decimal_read : (negative : Bool) (whole behind power : List ℕ) (exponent : ℤ) → 0 < length whole + length behind → IsExponent power exponent → decimal_of negative whole behind power ≡ Some (decimal negative whole behind exponent)
decimal_read negative whole behind power exponent some e =
    let not_empty : (length whole + length behind == 0) ≡ false = grind (arith, nat_tests) in
    left_out (length whole + length behind == 0) None (option_map (decimal negative whole behind) (exponent_of power)) not_empty
    ∙ ap (option_map (decimal negative whole behind)) (exponent_read power exponent e)

letter_is_neither : (letter : ℕ) → (letter ≡ lower_e) ⊎ (letter ≡ upper_e) → ((letter == slash) ≡ false) × ((letter == point) ≡ false)
letter_is_neither letter (inl e) = (ap (λ l. l == slash) e, ap (λ l. l == point) e)
letter_is_neither letter (inr e) = (ap (λ l. l == slash) e, ap (λ l. l == point) e)

no_point_read : (negative : Bool) (whole power : List ℕ) (exponent : ℤ) → IsExponent power exponent → number_from negative whole power ≡ decimal_of negative whole [] power
no_point_read negative whole power exponent no_exponent = refl
no_point_read negative whole power exponent (with_exponent s) =
    let rest = s.sign ++ s.digits in
    let neither = letter_is_neither s.letter s.letter_is in
    let front = decimal_of negative whole (front_digits rest) (behind_digits rest) in
    let plain = decimal_of negative whole [] (s.letter ∷ rest) in
    ap (number_from negative whole) s.bytes_are
    ∙ (left_out (s.letter == slash) (ratio_of negative whole rest) (if s.letter == point then front else plain) neither.0
    ∙ (left_out (s.letter == point) front plain neither.1 ∙ ap (decimal_of negative whole []) (sym s.bytes_are)))

fraction_read : (negative : Bool) (whole fraction behind power : List ℕ) (exponent : ℤ) → IsFraction fraction behind → IsExponent power exponent → number_from negative whole (fraction ++ power) ≡ decimal_of negative whole behind power
fraction_read negative whole fraction behind power exponent no_point e = no_point_read negative whole power exponent e
fraction_read negative whole fraction behind power exponent (with_point digits h) e =
    let end = NoDigit-exponent power exponent e in
    ap₂ (decimal_of negative whole) (front_digits-append digits power h end) (behind_digits-append digits power h end)

NoSign-body : (whole fraction behind power : List ℕ) → AreDigits whole → IsFraction fraction behind → 0 < length whole + length behind → NoSign (whole ++ (fraction ++ power))
NoSign-body [] fraction behind power h f some = NoSign-fraction fraction behind power f (omega arith)
NoSign-body (digit ∷ whole) fraction behind power h f some = NoSign-digits (digit ∷ whole) (fraction ++ power) h (omega arith)

unsigned_decimal : (text : List ℕ) (negative : Bool) (whole behind : List ℕ) (exponent : ℤ) → SpellsDecimal text negative whole behind exponent → unsigned_number (is_negative text) (behind_sign text) ≡ Some (decimal negative whole behind exponent)
unsigned_decimal text negative whole behind exponent s =
    let tail = s.fraction ++ s.power in
    let body = whole ++ tail in
    let no_sign = NoSign-body whole s.fraction behind s.power s.whole_digits s.fraction_is s.has_digit in
    let end = NoDigit-fraction s.fraction behind s.power exponent s.fraction_is s.power_is in
    ap₂ unsigned_number (ap is_negative s.text_is ∙ sign_read s.sign body negative s.sign_is no_sign) (ap behind_sign s.text_is ∙ body_read s.sign body negative s.sign_is no_sign)
    ∙ (number_from-digits negative whole tail s.whole_digits end
    ∙ (fraction_read negative whole s.fraction behind s.power exponent s.fraction_is s.power_is ∙ decimal_read negative whole behind s.power exponent s.has_digit s.power_is))

-- fractions
unsigned_ratio : (text : List ℕ) (negative : Bool) (over under : List ℕ) → SpellsRatio text negative over under → unsigned_number (is_negative text) (behind_sign text) ≡ Some (ratio negative over under)
unsigned_ratio text negative over under s =
    let tail : List ℕ = slash ∷ under in
    let body = over ++ tail in
    let no_sign = NoSign-digits over tail s.over_digits s.has_digit in
    let end = NoDigit-cons slash under refl in
    let has : nat_lt 0 (length over) ≡ true = grind (arith, nat_tests, s.has_digit) in
    let above : nat_lt 0 (number under) ≡ true = grind (arith, nat_tests, s.under_above_zero) in
    ap₂ unsigned_number (ap is_negative s.text_is ∙ sign_read s.sign body negative s.sign_is no_sign) (ap behind_sign s.text_is ∙ body_read s.sign body negative s.sign_is no_sign)
    ∙ (number_from-digits negative over tail s.over_digits end
    ∙ taken (nat_lt 0 (length over) && all_ascii_digits under && nat_lt 0 (number under)) (Some (ratio negative over under)) None (ap₂ ◌&&◌ (ap₂ ◌&&◌ has s.under_digits) above))

short_text : (text : List ℕ) → length text ≤ max_len → nat_lt max_len (length text) ≡ false
short_text text h = grind (arith, nat_tests)

pub number_of-spelled : (text : List ℕ) (n : Number) → Spells text n → number_of text ≡ Some n
unfolding number_of
number_of-spelled text (decimal negative whole behind exponent) s =
    left_out (nat_lt max_len (length text)) None (unsigned_number (is_negative text) (behind_sign text)) (short_text text s.not_long) ∙ unsigned_decimal text negative whole behind exponent s.parts
number_of-spelled text (ratio negative over under) s =
    left_out (nat_lt max_len (length text)) None (unsigned_number (is_negative text) (behind_sign text)) (short_text text s.not_long) ∙ unsigned_ratio text negative over under s.parts
