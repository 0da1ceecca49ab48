-- Numbers are read exactly from what is written for them.
use Rattle.std.proofs.Common.{◌≡◌, refl, sym, ◌∙◌, ap, subst, ℕ, suc, ◌%◌, ◌^◌, ◌<◌, ◌≤◌, ◌==◌, Bool, true, false, List, [], ◌∷◌, ◌++◌, length, drop, Option, Some, None, Result, Ok, Err, inl, inr, decimal, arith, nat_eq, ℤ, pos, negsuc, neg_ℤ, unsigned_abs, ◌≤ℤ◌, ◌<ℤ◌, ◌⊎◌}
use Rattle.std.specs.Fmt.{digits, signed_decimal}
use Rattle.std.specs.Int.{IsGcd}
use Rattle.std.specs.Prelude.{◌&&◌, bytes_eq, if◌then◌else◌}
use Rattle.std.specs.List.{starts_with}
use Rattle.std.proofs.lemmas.Bool.{cases_lt, eqb-true}
use Rattle.std.proofs.lemmas.Bool.Decides.{nat_tests}
use Rattle.std.proofs.lemmas.Int.{ints}
use Rattle.std.proofs.lemmas.List.{append-nil}
use Rattle.std.proofs.lemmas.Nat.Gcd.{IsGcd-from_mod, IsGcd-from_zero}
use Rattle.base_names.specs.Decimal.{below, decimal_of}
use Rattle.base_names.proofs.Decimals.{below_at, below_past, decimal-read, decimal-spelled}
use Rattle.frac128.specs.Fraction.{Fraction}
use Rattle.frac128.specs.Lowest.{IsKept}
use Rattle.frac128.specs.Numbers.{limit}
use Rattle.frac128.specs.Text.{canonical_text, denominator_text}
use Rattle.frac_text.specs.Reading.{number_of, reading}
use Rattle.frac_text.specs.declared.fault.NumFault.{NumFault}
use Rattle.frac_text.proofs.RoundTrip.{reading-canonical_text}
use Rattle.frac_text.proofs.Kept.{reading_kept}
use Rattle.solve_defs.specs.Values.{whole}
use Rattle.cert_text.specs.Reading.{◌>>=◌, count_of, fraction_of, least, least_text, whole_in, whole_of, written_as}
use Rattle.cert_text.proofs.Basics.{bound_then, chosen, equal_bytes, same_bytes}

-- ---- fractions

pub fraction_of-written : (x : Fraction) → IsKept x → fraction_of (canonical_text x) ≡ Some x
unfolding fraction_of
fraction_of-written x kept = ap (written_as (canonical_text x)) (reading-canonical_text x kept) ∙ ap (λ b. if b then Some x else None) (equal_bytes (canonical_text x))

pub fraction_of-spelled : (t : List ℕ) (x : Fraction) → fraction_of t ≡ Some x → IsKept x × (canonical_text x ≡ t)
unfolding fraction_of
fraction_of-spelled t x h = by_reading (reading t) refl h
  where
    by_reading : (r : Result Fraction NumFault) → reading t ≡ r → written_as t r ≡ Some x → IsKept x × (canonical_text x ≡ t)
    by_reading (Ok y) e h =
        let picked = chosen (bytes_eq t (canonical_text y)) y x h in
        (subst IsKept picked.1 (reading_kept t y e), ap canonical_text (sym picked.1) ∙ sym (same_bytes t (canonical_text y) picked.0))
    by_reading (Err fault) e h = absurd cc

-- a text is compared with a numerator, and what is left with a denominator
pub compared_in_parts : (t front back : List ℕ) → bytes_eq t (front ++ back) ≡ (starts_with nat_eq t front && bytes_eq (drop (length front) t) back)
compared_in_parts t [] back = refl
compared_in_parts [] (x ∷ front) back = refl
compared_in_parts (y ∷ t) (x ∷ front) back = by_test (nat_eq y x) (nat_eq x y) (swapped y x) (compared_in_parts t front back)
  where
    swapped : (a b : ℕ) → nat_eq a b ≡ nat_eq b a
    swapped a b = grind (arith, nat_tests)

    by_test : (b c : Bool) → b ≡ c → bytes_eq t (front ++ back) ≡ (starts_with nat_eq t front && bytes_eq (drop (length front) t) back)
        → (b && bytes_eq t (front ++ back)) ≡ ((c && starts_with nat_eq t front) && bytes_eq (drop (length front) t) back)
    by_test true true h later = later
    by_test false false h later = refl
    by_test true false h later = absurd cc
    by_test false true h later = absurd cc

-- ---- whole numbers

one_gcd : (n : ℕ) → IsGcd n 1 1
one_gcd n = IsGcd-from_mod n 1 1 (IsGcd-from_zero 1 (n % 1) (omega arith))

whole_kept : (k : ℤ) → unsigned_abs k < limit → IsKept (whole k)
whole_kept k h = record { nothing_in_common = one_gcd (unsigned_abs k); num_fits = h; den_fits = omega arith }

abbrev pub IsInRange : ℤ → Type 0
IsInRange k = (neg_ℤ (pos (2 ^ 127)) ≤ℤ k) × (k <ℤ pos (2 ^ 127))

small_or_least : (k : ℤ) → IsInRange k → (unsigned_abs k < limit) ⊎ (k ≡ least)
small_or_least (pos n) h = inl (grind (arith, ints, h.1))
small_or_least (negsuc n) h =
    elim (cases_lt (suc n) limit) [
      | inl small ↦ inl small
      | inr large ↦ inr (ap negsuc (grind (arith, ints, h.0, large)))
    ]

least_is_no_fraction : fraction_of least_text ≡ None
unfolding fraction_of number_of
least_is_no_fraction = refl

least-written : signed_decimal least ≡ least_text
unfolding digits
least-written = refl

whole-small : (k : ℤ) → unsigned_abs k < limit → whole_of (signed_decimal k) ≡ Some k
unfolding whole_of
whole-small k h =
    let text : canonical_text (whole k) ≡ signed_decimal k = append-nil (signed_decimal k) in
    ap (whole_in (signed_decimal k)) (ap fraction_of (sym text) ∙ fraction_of-written (whole k) (whole_kept k h))

whole-least : whole_of least_text ≡ Some least
unfolding whole_of
whole-least = ap (whole_in least_text) least_is_no_fraction

pub whole_of-written : (k : ℤ) → IsInRange k → whole_of (signed_decimal k) ≡ Some k
whole_of-written k h =
    elim (small_or_least k h) [
      | inl small ↦ whole-small k small
      | inr is ↦ ap (λ n. whole_of (signed_decimal n)) is ∙ (ap whole_of least-written ∙ (whole-least ∙ ap Some (sym is)))
    ]

in_range : (k : ℤ) → unsigned_abs k < limit → IsInRange k
in_range (pos n) h = (grind (arith, ints), grind (arith, ints, h))
in_range (negsuc n) h = (grind (arith, ints, h), grind (arith, ints))

pub range_size : (k : ℤ) → IsInRange k → unsigned_abs k < 10 ^ 64
range_size k h = elim (small_or_least k h) [
  | inl small ↦ omega (arith, small)
  | inr is ↦ let e = ap unsigned_abs is in omega (arith, e)
]

pub whole_of-spelled : (t : List ℕ) (k : ℤ) → whole_of t ≡ Some k → IsInRange k × (signed_decimal k ≡ t)
unfolding whole_of
whole_of-spelled t k h = by_fraction (fraction_of t) refl h
  where
    by_fraction : (o : Option Fraction) → fraction_of t ≡ o → whole_in t o ≡ Some k → IsInRange k × (signed_decimal k ≡ t)
    by_fraction (Some x) e h =
        let picked = chosen (x.below == 0) x.num k h in
        let is = fraction_of-spelled t x e in
        let end : denominator_text x.below ≡ [] = ap denominator_text (eqb-true x.below 0 picked.0) in
        (subst IsInRange picked.1 (in_range x.num is.0.num_fits), ap signed_decimal (sym picked.1) ∙ (sym (append-nil (signed_decimal x.num)) ∙ (ap (λ (b : List ℕ). signed_decimal x.num ++ b) (sym end) ∙ is.1)))
    by_fraction None e h =
        let picked = chosen (bytes_eq t least_text) least k h in
        (subst IsInRange picked.1 (omega arith, omega arith), ap signed_decimal (sym picked.1) ∙ (least-written ∙ sym (same_bytes t least_text picked.0)))

-- ---- counts

pub count_of-written : (bits n : ℕ) → n < 2 ^ bits → n < 2 ^ 64 → count_of bits (decimal n) ≡ Some n
count_of-written bits n fits small = ap (below (2 ^ bits)) (decimal-read n small) ∙ below_at (2 ^ bits) n fits

pub count_of-spelled : (bits : ℕ) (t : List ℕ) (n : ℕ) → 2 ^ bits ≤ 2 ^ 64 → count_of bits t ≡ Some n → (n < 2 ^ bits) × (decimal n ≡ t)
count_of-spelled bits t n most h = by_number (decimal_of t) refl h
  where
    by_size : (m : ℕ) → decimal_of t ≡ Some m → (m < 2 ^ bits) ⊎ (2 ^ bits ≤ m) → below (2 ^ bits) (Some m) ≡ Some n → (n < 2 ^ bits) × (decimal n ≡ t)
    by_size m e (inl small) h =
        let is : m ≡ n = cc (below_at (2 ^ bits) m small) in
        (subst (λ k. k < 2 ^ bits) is small, ap decimal (sym is) ∙ decimal-spelled t m e (omega (arith, small, most)))
    by_size m e (inr large) h = absurd (cc (below_past (2 ^ bits) m large))

    by_number : (o : Option ℕ) → decimal_of t ≡ o → below (2 ^ bits) o ≡ Some n → (n < 2 ^ bits) × (decimal n ≡ t)
    by_number None e h = absurd cc
    by_number (Some m) e h = by_size m e (cases_lt m (2 ^ bits)) h

-- ---- the first of several steps, each of which may give nothing

pub counted : {B C : Type 0} (bits : ℕ) (t : List ℕ) (f : ℕ → Option B) (b : B) → 2 ^ bits ≤ 2 ^ 64 → (count_of bits t >>= f) ≡ Some b
    → ((n : ℕ) → n < 2 ^ bits → decimal n ≡ t → f n ≡ Some b → C) → C
counted bits t f b most h further =
    bound_then (count_of bits t) f b h (λ n read rest. let is = count_of-spelled bits t n most read in further n is.0 is.1 rest)

pub measured : {B C : Type 0} (t : List ℕ) (f : Fraction → Option B) (b : B) → (fraction_of t >>= f) ≡ Some b
    → ((x : Fraction) → IsKept x → canonical_text x ≡ t → f x ≡ Some b → C) → C
measured t f b h further =
    bound_then (fraction_of t) f b h (λ x read rest. let is = fraction_of-spelled t x read in further x is.0 is.1 rest)
