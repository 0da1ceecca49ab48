-- What parts are read as, by cases on what fits.
use Rattle.std.proofs.Common.{zero, IsTrue, ◌↔◌, ◌≡◌, refl, ◌∙◌, ap, ℕ, suc, ◌+◌, ◌*◌, ◌^◌, ◌<◌, ◌≤◌, Bool, true, false, arith, if◌then◌else◌, ℤ, pos, negsuc, ◌+ℤ◌, ◌<ℤ◌, Ok, Err}
use Rattle.std.proofs.lemmas.Bool.Decides.{nat_tests}
use Rattle.std.proofs.lemmas.Int.{ints}
use Rattle.std.proofs.lemmas.Nat.{pow-add}
use Rattle.std.proofs.Math.Nat.{mul-le-mul_left, zero-mul}
use Rattle.frac128.specs.Fraction.{lowest, zero_value}
use Rattle.frac128.specs.Numbers.{signed}
use Rattle.frac_text.specs.declared.fault.NumFault.TheVariants.{TooWide}
use Rattle.frac128.specs.declared.limits.TheConstants.{HUGE}
use Rattle.frac_text.specs.Number.{Parts, FitsParts, is_too_wide, is_huge, outcome_of, value_of, tens_over, tens_under}
use Rattle.frac128.proofs.Field.{lowest-zero}
use Rattle.frac_text.proofs.Runs.{ten_pos}
use Rattle.frac_text.proofs.Sizes.{IsSized, sized_reaches, sized_reached, sized-times}

lowest_of_zero : (negative : Bool) (over under : ℕ) → over ≡ 0 → 0 < under → lowest (signed negative over) under ≡ zero_value
lowest_of_zero negative over zero e h = absurd (omega arith)
lowest_of_zero true over (suc d) e h = ap (λ n. lowest (signed true n) (suc d)) e ∙ lowest-zero (suc d) h
lowest_of_zero false over (suc d) e h = ap (λ n. lowest (signed false n) (suc d)) e ∙ lowest-zero (suc d) h

-- each test as a fact
by_test : (p : Parts) (b : Bool) → is_too_wide p ≡ b → outcome_of p ≡ (if b then Err (TooWide p.negative (is_huge p)) else Ok (value_of p))
by_test p b e = ap (λ w. if w then Err (TooWide p.negative (is_huge p)) else Ok (value_of p)) e

not_wide-zero : (p : Parts) → p.over ≡ 0 → is_too_wide p ≡ false
not_wide-zero p e = grind (arith, nat_tests)

not_wide-fits : (p : Parts) → FitsParts p → is_too_wide p ≡ false
not_wide-fits p h = grind (arith, nat_tests)

wide : (p : Parts) → 0 < p.over → (FitsParts p → ⊥) → is_too_wide p ≡ true
wide p h n = grind (arith, nat_tests)

is_huge-from : (p : Parts) (huge : Bool) → IsTrue huge ↔ (p.under * HUGE ≤ p.over) → is_huge p ≡ huge
is_huge-from p true e = grind (arith, nat_tests, e.0 refl)
is_huge-from p false e = grind (arith, nat_tests, e.1)

pub outcome_of-zero : (p : Parts) → p.over ≡ 0 → 0 < p.under → outcome_of p ≡ Ok zero_value
outcome_of-zero p e h = by_test p false (not_wide-zero p e) ∙ ap Ok (lowest_of_zero p.negative p.over p.under e h)

pub outcome_of-fits : (p : Parts) → FitsParts p → outcome_of p ≡ Ok (value_of p)
outcome_of-fits p h = by_test p false (not_wide-fits p h)

pub outcome_of-wide : (p : Parts) (huge : Bool) → 0 < p.over → (FitsParts p → ⊥) → IsTrue huge ↔ (p.under * HUGE ≤ p.over) → outcome_of p ≡ Err (TooWide p.negative huge)
outcome_of-wide p huge h n e = by_test p true (wide p h n) ∙ ap (λ b. Err (TooWide p.negative b)) (is_huge-from p huge e)

pub is_huge-tens : (n len : ℕ) (tens : ℤ) → IsSized n len → (pos 20 <ℤ (pos len +ℤ tens)) ↔ (tens_under tens * HUGE ≤ tens_over n tens)
is_huge-tens n len (pos t) s =
    let longer = sized-times n len t s in (
      λ h. let r = sized_reaches (n * 10 ^ t) (len + t) 20 longer (omega (arith, ints, h)) in omega (arith, r),
      λ h. let r = sized_reached (n * 10 ^ t) (len + t) 20 longer (omega (arith, h)) in omega (arith, ints, r),
    )
is_huge-tens n len (negsuc t) s =
    let e = pow-add 10 (suc t) 20 in (
      λ h. let r = sized_reaches n len (suc t + 20) s (omega (arith, ints, h)) in omega (arith, e, r),
      λ h. let r = sized_reached n len (suc t + 20) s (omega (arith, e, h)) in omega (arith, ints, r),
    )

-- a power of ten leaves the number or makes it greater, and no part is 0
pub tens_over-le : (n : ℕ) (tens : ℤ) → n ≤ tens_over n tens
tens_over-le n (pos t) = let h = mul-le-mul_left n (ten_pos t) in omega (arith, h)
tens_over-le n (negsuc t) = omega arith

pub tens_under-positive : (tens : ℤ) → 0 < tens_under tens
tens_under-positive (pos t) = omega arith
tens_under-positive (negsuc t) = let h = ten_pos (suc t) in omega (arith, h)

pub tens_over-zero : (tens : ℤ) → tens_over 0 tens ≡ 0
tens_over-zero (pos t) = zero-mul (10 ^ t)
tens_over-zero (negsuc t) = refl
