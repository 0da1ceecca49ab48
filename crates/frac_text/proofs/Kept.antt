-- A number that is read from a text is in lowest terms, and its parts fit.
use Rattle.std.proofs.Common.{◌≡◌, refl, ◌∙◌, ap, subst, ℕ, zero, suc, ◌/◌, ◌<◌, ◌≤◌, Bool, true, false, List, arith, Option, Some, None, Ok, Err}
use Rattle.std.specs.Prelude.{if◌then◌else◌, unsigned_abs}
use Rattle.std.proofs.Math.Nat.{div-le_self}
use Rattle.std.proofs.lemmas.Bool.Decides.{nat_tests}
use Rattle.frac128.specs.Fraction.{Fraction, lowest, zero_value}
use Rattle.frac128.specs.Lowest.{IsKept}
use Rattle.frac128.specs.Numbers.{gcd, is_below_zero, limit, signed}
use Rattle.frac128.proofs.Field.{den-lowest, lowest-apart, num-lowest}
use Rattle.frac128.proofs.Integers.{size-signed}
use Rattle.frac128.proofs.Kept.{IsKept-zero}
use Rattle.frac_text.specs.Grammar.{Spells}
use Rattle.frac_text.specs.Number.{Number, decimal, ratio, FitsParts, Parts, is_huge, is_too_wide, outcome_of, parts_of, value_of}
use Rattle.frac_text.specs.Reading.{number_of, outcome_or_fault, reading}
use Rattle.frac_text.specs.declared.fault.NumFault.TheVariants.{TooWide}
use Rattle.frac_text.proofs.Outcomes.{outcome_of-zero, tens_under-positive}
use Rattle.frac_text.proofs.Spelled.{spelled-number_of}

lowest_kept : (negative : Bool) (over under : ℕ) → 0 < under → over < limit → under < limit → IsKept (lowest (signed negative over) under)
lowest_kept negative over under some over_fits under_fits =
    let n = signed negative over in
    let g = gcd (unsigned_abs n) under in
    let size : unsigned_abs n ≡ over = size-signed negative over in
    let own : unsigned_abs (lowest n under).num ≡ unsigned_abs n / g =
    ap unsigned_abs (num-lowest n under) ∙ size-signed (is_below_zero n) (unsigned_abs n / g) in
    let less_over : unsigned_abs n / g ≤ unsigned_abs n = div-le_self (unsigned_abs n) g in
    let less_under : under / g ≤ under = div-le_self under g in
    record {
      nothing_in_common = lowest-apart n under some;
      num_fits = omega (arith, own, less_over, size, over_fits);
      den_fits = omega (arith, den-lowest n under some, less_under, under_fits);
    }

parts_fit : (p : Parts) → is_too_wide p ≡ false → 0 < p.over → FitsParts p
parts_fit p e h = grind (arith, nat_tests)

parts_kept : (p : Parts) (x : Fraction) → 0 < p.under → 0 < p.over → outcome_of p ≡ Ok x → IsKept x
parts_kept p x under over h = by_test (is_too_wide p) refl h
  where
    by_test : (b : Bool) → is_too_wide p ≡ b → (if b then Err (TooWide p.negative (is_huge p)) else Ok (value_of p)) ≡ Ok x → IsKept x
    by_test true e h = absurd cc
    by_test false e h =
        let fits = parts_fit p e over in
        let is : value_of p ≡ x = cc in
        subst IsKept is (lowest_kept p.negative p.over p.under under fits.0 fits.1)

outcome_kept : (negative : Bool) (over under : ℕ) (x : Fraction) → 0 < under →
    outcome_of (record { negative = negative; over = over; under = under }) ≡ Ok x → IsKept x
outcome_kept negative zero under x some h =
    let e = outcome_of-zero (record { negative = negative; over = 0; under = under }) refl some in
    let is : zero_value ≡ x = cc in
    subst IsKept is IsKept-zero
outcome_kept negative (suc over) under x some h = parts_kept (record { negative = negative; over = suc over; under = under }) x some (omega arith) h

under_positive : (text : List ℕ) (n : Number) → Spells text n → 0 < (parts_of n).under
under_positive text (decimal negative whole behind exponent) s = tens_under-positive _
under_positive text (ratio negative over under) s = s.parts.under_above_zero

pub reading_kept : (text : List ℕ) (x : Fraction) → reading text ≡ Ok x → IsKept x
reading_kept text x h = by_number (number_of text) refl h
  where
    by_number : (o : Option Number) → number_of text ≡ o → outcome_or_fault o ≡ Ok x → IsKept x
    by_number (Some n) e h =
        let p = parts_of n in
        outcome_kept p.negative p.over p.under x (under_positive text n (spelled-number_of text n e)) h
    by_number None e h = absurd cc
