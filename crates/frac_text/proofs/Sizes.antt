-- How large the number is that digits spell, by their count and then from the left.
use Rattle.std.proofs.Common.{inl, inr, ◌⊎◌, IsTrue, ◌↔◌, zero-add, ◌≡◌, ◌≢◌, refl, sym, ◌∙◌, ap, ap₂, subst, ℕ, suc, ◌+◌, ◌-◌, ◌*◌, ◌^◌, ◌<◌, ◌≤◌, Bool, true, false, List, [], ◌∷◌, ◌++◌, length, take, drop, arith, ◌==◌, if◌then◌else◌, lit<}
use Rattle.std.proofs.lemmas.Bool.{cases_lt}
use Rattle.std.proofs.lemmas.Bool.Decides.{eqb_tells, nat_tests}
use Rattle.std.proofs.Math.Nat.{add-mul, one-mul, mul_assoc, mul_comm, pow-suc, mul-le-mul_right, mul-lt-mul_of_pos_right, pow-le-pow_right}
use Rattle.std.proofs.lemmas.Nat.{pow-add}
use Rattle.std.proofs.lemmas.List.{nil_from_length, length-drop, take-append-drop}
use Rattle.std.specs.Cmp.Lexicographic.{slice_cmp}
use Rattle.std.specs.declared.cmp.Ordering.{Ordering}
use Rattle.std.specs.declared.cmp.Ordering.TheVariants.{Less, Equal, Greater}
use Rattle.std.specs.Ordering.{nat_cmp, is_ge, ordering_then}
use Rattle.frac_text.specs.Digits.{number, number_after, without_first_zeros}
use Rattle.frac_text.specs.Grammar.{AreDigits}
use Rattle.frac_text.proofs.Runs.{AreDigits-drop, AreDigits-front, AreDigits-rest, tens_more, ten_pos}

regroup : (n x P r longer alone : ℕ) → longer ≡ (n * 10 + x) * P + r → alone ≡ (0 + x) * P + r → {weight : ℕ} → weight ≡ n * P * 10 → longer ≡ weight + alone
regroup n x P r longer alone e f g =
    let parts = add-mul (n * 10) x P in
    let first = mul_assoc n 10 P in
    let turned = ap (λ y. n * y) (mul_comm 10 P) in
    let second = mul_assoc n P 10 in
    let none = ap (λ y. y * P) (zero-add x) in
    omega (arith, e, f, g, parts, first, turned, second, none)

-- the digits in front weigh as many tens as digits follow
pub number_after-split : (n : ℕ) (digits : List ℕ) → number_after n digits ≡ n * 10 ^ length digits + number digits
number_after-split n [] = omega arith
number_after-split n (digit ∷ digits) =
    let P : ℕ = 10 ^ length digits in
    regroup n (digit - 48) P (number digits) _ _ (number_after-split (n * 10 + (digit - 48)) digits) (number_after-split (0 * 10 + (digit - 48)) digits) (tens_more n (length digits))

pub number-cons : (digit : ℕ) (digits : List ℕ) → number (digit ∷ digits) ≡ (digit - 48) * 10 ^ length digits + number digits
number-cons digit digits = number_after-split (0 * 10 + (digit - 48)) digits ∙ ap (λ x. x * 10 ^ length digits + number digits) (zero-add (digit - 48))

pub number_after-append : (n : ℕ) (front rest : List ℕ) → number_after n (front ++ rest) ≡ number_after (number_after n front) rest
number_after-append n [] rest = refl
number_after-append n (digit ∷ front) rest = number_after-append (n * 10 + (digit - 48)) front rest

-- len digits spell less than 10 ^ len
pub number-below : (digits : List ℕ) → AreDigits digits → number digits < 10 ^ length digits
number-below [] h = omega arith
number-below (digit ∷ digits) h =
    let d = AreDigits-front digit digits h in
    let rest = number-below digits (AreDigits-rest digit digits h) in
    let is = number-cons digit digits in
    let x : digit - 48 ≤ 9 = omega (arith, d.at_most_nine) in
    let most = mul-le-mul_right (10 ^ length digits) x in
    let next = pow-suc 10 (length digits) in
    omega (arith, is, rest, most, next)

-- n has len digits, the first of which isn't 0
pub record IsSized (n len : ℕ) : Type 0 where
  pub top : ℕ
  pub len_is : len ≡ suc top
  pub at_least : 10 ^ top ≤ n
  pub below : n < 10 ^ len

-- n and len belong to digits that begin with one that isn't 0
sized_front : (digit : ℕ) (digits : List ℕ) → AreDigits (digit ∷ digits) → (digit ≡ 48 → ⊥) → IsSized (number (digit ∷ digits)) (suc (length digits))
sized_front digit digits h n =
    let d = AreDigits-front digit digits h in
    let is = number-cons digit digits in
    let x : 1 ≤ digit - 48 = omega (arith, d.at_least_zero, n) in
    let least = mul-le-mul_right (10 ^ length digits) x in
    record { top = length digits; len_is = refl; at_least = omega (arith, is, least); below = number-below (digit ∷ digits) h }

sized_by : (digit : ℕ) (digits : List ℕ) → AreDigits (digit ∷ digits) → (b : Bool) → ((b ≡ true) × (digit ≡ 48)) ⊎ ((b ≡ false) × (digit ≢ 48))
    → (0 < length (without_first_zeros digits) → IsSized (number digits) (length (without_first_zeros digits)))
    → 0 < length (if b then without_first_zeros digits else digit ∷ digits) → IsSized (number (digit ∷ digits)) (length (if b then without_first_zeros digits else digit ∷ digits))
sized_by digit digits h true (inl p) more some = subst (λ d. IsSized (number (d ∷ digits)) (length (without_first_zeros digits))) (sym p.1) (more some)
sized_by digit digits h true (inr p) more some = absurd cc
sized_by digit digits h false (inl p) more some = absurd cc
sized_by digit digits h false (inr p) more some = sized_front digit digits h p.1

pub sized : (digits : List ℕ) → AreDigits digits → 0 < length (without_first_zeros digits) → IsSized (number digits) (length (without_first_zeros digits))
sized [] h some = absurd (omega arith)
sized (digit ∷ digits) h some = sized_by digit digits h (digit == 48) (eqb_tells digit 48) (sized digits (AreDigits-rest digit digits h)) some

zero_by : (digit : ℕ) (digits : List ℕ) → (b : Bool) → ((b ≡ true) × (digit ≡ 48)) ⊎ ((b ≡ false) × (digit ≢ 48))
    → number (without_first_zeros digits) ≡ number digits → number (if b then without_first_zeros digits else digit ∷ digits) ≡ number (digit ∷ digits)
zero_by digit digits true (inl p) more = more ∙ ap (λ d. number (d ∷ digits)) (sym p.1)
zero_by digit digits true (inr p) more = absurd cc
zero_by digit digits false (inl p) more = absurd cc
zero_by digit digits false (inr p) more = refl

-- zeros in front don't count
pub number-without_first_zeros : (digits : List ℕ) → number (without_first_zeros digits) ≡ number digits
number-without_first_zeros [] = refl
number-without_first_zeros (digit ∷ digits) = zero_by digit digits (digit == 48) (eqb_tells digit 48) (number-without_first_zeros digits)

-- zeros alone spell 0
pub number-zeros : (digits : List ℕ) → length (without_first_zeros digits) ≡ 0 → number digits ≡ 0
number-zeros digits h = sym (number-without_first_zeros digits) ∙ ap number (nil_from_length (without_first_zeros digits) h)

pub sized_above_zero : {n len : ℕ} → IsSized n len → 0 < n
sized_above_zero s = let h = ten_pos s.top in omega (arith, h, s.at_least)

-- the count of digits tells whether a power of ten is reached
pub sized_reaches : (n len k : ℕ) → IsSized n len → k < len → 10 ^ k ≤ n
sized_reaches n len k s h =
    let p : 10 ^ k ≤ 10 ^ s.top = pow-le-pow_right (lit< tt) (omega (arith, s.len_is)) in
    omega (arith, p, s.at_least)

pub sized_short : (n len k : ℕ) → IsSized n len → len ≤ k → n < 10 ^ k
sized_short n len k s h =
    let p : 10 ^ len ≤ 10 ^ k = pow-le-pow_right (lit< tt) h in
    omega (arith, p, s.below)

pub sized_reached : (n len k : ℕ) → IsSized n len → 10 ^ k ≤ n → k < len
sized_reached n len k s h = elim (cases_lt k len) [ inl p ↦ p | inr p ↦ let short = sized_short n len k s p in absurd (omega arith) ]

-- each power of ten adds a digit
pub sized-times : (n len t : ℕ) → IsSized n len → IsSized (n * 10 ^ t) (len + t)
sized-times n len t s = record {
  top = s.top + t;
  len_is = omega (arith, s.len_is);
  at_least = subst (λ p. p ≤ n * 10 ^ t) (sym (pow-add 10 s.top t)) (mul-le-mul_right (10 ^ t) s.at_least);
  below = subst (λ p. n * 10 ^ t < p) (sym (pow-add 10 len t)) (mul-lt-mul_of_pos_right s.below (ten_pos t));
}

-- digits that spell 0 are zeros
pub digits-zero : (digits : List ℕ) → AreDigits digits → number digits ≡ 0 → length (without_first_zeros digits) ≡ 0
digits-zero digits h e = elim (cases_lt 0 (length (without_first_zeros digits))) [
  | inl p ↦ let some = sized_above_zero (sized digits h p) in absurd (omega arith)
  | inr p ↦ omega arith
]

-- the count decides where it differs
pub more_digits : (o u m k : ℕ) → IsSized o m → IsSized u k → k + 20 < m → u * 10 ^ 20 ≤ o
more_digits o u m k so su h =
    let shifted = sized-times u k 20 su in
    let reached = sized_reaches o m (k + 20) so h in
    omega (arith, shifted.below, reached)

pub fewer_digits : (o u m k : ℕ) → IsSized o m → IsSized u k → m < k + 20 → o < u * 10 ^ 20
fewer_digits o u m k so su h =
    let reached = sized_reaches (u * 10 ^ 20) (k + 20) m (sized-times u k 20 su) h in
    omega (arith, so.below, reached)

-- twenty digits less than 10 ^ 20 behind the others don't decide
pub number-front : (p q : List ℕ) → AreDigits p → length p ≡ length q + 20 → number p ≡ number (take (length q) p) * 10 ^ 20 + number (drop (length q) p)
number-front p q h e =
    let n : ℕ = length q in
    let len : length (drop n p) ≡ 20 = omega (arith, length-drop n p) in
    ap number (sym (take-append-drop n p)) ∙ (number_after-append 0 (take n p) (drop n p) ∙ (number_after-split (number (take n p)) (drop n p) ∙ ap (λ l. number (take n p) * 10 ^ l + number (drop n p)) len))

pub number-rest : (p q : List ℕ) → AreDigits p → length p ≡ length q + 20 → number (drop (length q) p) < 10 ^ 20
number-rest p q h e =
    let n : ℕ = length q in
    let len : length (drop n p) ≡ 20 = omega (arith, length-drop n p) in
    subst (λ l. number (drop n p) < 10 ^ l) len (number-below (drop n p) (AreDigits-drop n p h))

-- the first digits that differ decide
first_digit : (a b P r s : ℕ) → a < b → r < P → a * P + r < b * P + s
first_digit a b P r s h k =
    let step : a + 1 ≤ b = omega arith in
    let more = mul-le-mul_right P step in
    let next = add-mul a 1 P in
    let one = one-mul P in
    omega (arith, more, next, one)

abbrev IsGe : Ordering → List ℕ → List ℕ → Type 0
IsGe o left right = IsTrue (is_ge o) ↔ (number right ≤ number left)

ge_less : (x y : ℕ) (xs ys : List ℕ) → AreDigits (x ∷ xs) → AreDigits (y ∷ ys) → length xs ≡ length ys → x < y → IsGe (slice_cmp nat_cmp (x ∷ xs) (y ∷ ys)) (x ∷ xs) (y ∷ ys)
ge_less x y xs ys h k e p =
    let o : nat_cmp x y ≡ Less = grind (arith, nat_tests) in
    let dx = AreDigits-front x xs h in
    let below = number-below xs (AreDigits-rest x xs h) in
    let left = number-cons x xs in
    let right = number-cons y ys ∙ ap (λ l. (y - 48) * 10 ^ l + number ys) (sym e) in
    let less = first_digit (x - 48) (y - 48) (10 ^ length xs) (number xs) (number ys) (omega (arith, dx.at_least_zero)) below in
    subst (λ c. IsGe (ordering_then c (slice_cmp nat_cmp xs ys)) (x ∷ xs) (y ∷ ys)) (sym o) (λ t. absurd cc, λ le. absurd (omega (arith, left, right, less)))

ge_greater : (x y : ℕ) (xs ys : List ℕ) → AreDigits (x ∷ xs) → AreDigits (y ∷ ys) → length xs ≡ length ys → y < x → IsGe (slice_cmp nat_cmp (x ∷ xs) (y ∷ ys)) (x ∷ xs) (y ∷ ys)
ge_greater x y xs ys h k e p =
    let o : nat_cmp x y ≡ Greater = grind (arith, nat_tests) in
    let dy = AreDigits-front y ys k in
    let below = number-below ys (AreDigits-rest y ys k) in
    let left = number-cons x xs ∙ ap (λ l. (x - 48) * 10 ^ l + number xs) e in
    let right = number-cons y ys in
    let less = first_digit (y - 48) (x - 48) (10 ^ length ys) (number ys) (number xs) (omega (arith, dy.at_least_zero)) below in
    subst (λ c. IsGe (ordering_then c (slice_cmp nat_cmp xs ys)) (x ∷ xs) (y ∷ ys)) (sym o) (λ t. omega (arith, left, right, less), λ le. refl)

ge_equal : (x y : ℕ) (xs ys : List ℕ) → length xs ≡ length ys → x ≡ y → IsGe (slice_cmp nat_cmp xs ys) xs ys → IsGe (slice_cmp nat_cmp (x ∷ xs) (y ∷ ys)) (x ∷ xs) (y ∷ ys)
ge_equal x y xs ys e p rest =
    let o : nat_cmp x y ≡ Equal = grind (arith, nat_tests) in
    let left = number-cons x xs in
    let right = number-cons y ys ∙ ap₂ (λ d l. (d - 48) * 10 ^ l + number ys) (sym p) (sym e) in
    subst (λ c. IsGe (ordering_then c (slice_cmp nat_cmp xs ys)) (x ∷ xs) (y ∷ ys)) (sym o)
    (λ t. let less = rest.0 t in omega (arith, left, right, less), λ le. rest.1 (omega (arith, left, right, le)))

pub is_ge_digits : (left right : List ℕ) → AreDigits left → AreDigits right → length left ≡ length right → IsTrue (is_ge (slice_cmp nat_cmp left right)) ↔ (number right ≤ number left)
is_ge_digits [] [] h k e = (λ _. omega arith, λ _. refl)
is_ge_digits [] (y ∷ ys) h k e = absurd (omega arith)
is_ge_digits (x ∷ xs) [] h k e = absurd (omega arith)
is_ge_digits (x ∷ xs) (y ∷ ys) h k e =
    let rest = is_ge_digits xs ys (AreDigits-rest x xs h) (AreDigits-rest y ys k) (omega arith) in
    elim (cases_lt x y) [
      | inl p ↦ ge_less x y xs ys h k (omega arith) p
      | inr p ↦ elim (cases_lt y x) [ inl q ↦ ge_greater x y xs ys h k (omega arith) q | inr q ↦ ge_equal x y xs ys (omega arith) (omega arith) rest ]
    ]

-- the same of a number that isn't 0, by the digits that are left of it
pub sized_above : (digits kept : List ℕ) → AreDigits digits → 0 < number digits → kept ≡ without_first_zeros digits → IsSized (number digits) (length kept)
sized_above digits kept h some e = elim (cases_lt 0 (length (without_first_zeros digits))) [
  | inl p ↦ subst (λ k. IsSized (number digits) (length k)) (sym e) (sized digits h p)
  | inr p ↦ let none = number-zeros digits (omega arith) in absurd (omega arith)
]

-- four digits
pub number-short : (digits : List ℕ) → AreDigits digits → length digits ≤ 4 → number digits < 10 ^ 4
number-short digits h e =
    let most : 10 ^ length digits ≤ 10 ^ 4 = pow-le-pow_right (lit< tt) e in
    omega (arith, number-below digits h, most)
