-- Whole numbers as fractions.
use Rattle.std.proofs.Common.{◌≡◌, ◌∙◌, refl, subst, ap, ℕ, ◌<◌, ◌≢◌, ℤ, pos, ◌+ℤ◌, ◌*ℤ◌, inr, Option, Some, None, Ok, arith}
use Rattle.std.proofs.lemmas.Int.{ints}
use Rattle.std.specs.Int.{IsGcd}
use Rattle.std.specs.Option.{SomeIff}
use Rattle.std.specs.Prelude.{unsigned_abs}
use Rattle.std.proofs.Math.Nat.{div-one, one-dvd}
use Rattle.frac128.specs.Checked.{checked_sum}
use Rattle.frac128.specs.Fits.{FitsReduced}
use Rattle.frac128.specs.Fraction.{Fraction, exact_sum, lowest, one_value, quotient}
use Rattle.frac128.specs.Numbers.{gcd, limit}
use Rattle.frac128.proofs.Chains.{sum_is}
use Rattle.frac128.proofs.Divisors.{gcd-with_one}
use Rattle.frac128.proofs.Field.{lowest-self}
use Rattle.frac128.proofs.Fitting.{FitsReduced-is}
use Rattle.solve_defs.specs.Values.{whole}

whole_is : (n : ℤ) → lowest n 1 ≡ whole n
whole_is n = lowest-self (whole n) (one-dvd _, one-dvd 1, λ j p q. q)

fits_over_one : (n : ℤ) → unsigned_abs n < limit → FitsReduced (unsigned_abs n) 1
fits_over_one n small =
    let one : gcd (unsigned_abs n) 1 ≡ 1 = gcd-with_one (unsigned_abs n) 1 (inr refl) in
    (FitsReduced-is (unsigned_abs n) 1).1 (rw (one, div-one (unsigned_abs n)) (small, omega arith))

not_zero : pos 1 ≢ pos 0
not_zero e = omega (arith, ints, e)

-- what a program makes of a whole number that is small enough
pub made_whole : (n : ℤ) (made : Option Fraction) → unsigned_abs n < limit → SomeIff made ((pos 1 ≢ pos 0) × FitsReduced (unsigned_abs n) 1) (quotient n (pos 1))
    → made ≡ Some (whole n)
made_whole n None small told = absurd (told (not_zero, fits_over_one n small))
made_whole n (Some x) small told = ap Some (told.1 ∙ whole_is n)

sum_one : (k : ℤ) → exact_sum (whole k) one_value ≡ whole (k +ℤ pos 1)
unfolding exact_sum
sum_one k = ap (λ n. lowest n 1) (ends k) ∙ whole_is (k +ℤ pos 1)
  where
    ends : (a : ℤ) → a *ℤ pos 1 +ℤ pos 1 *ℤ pos 1 ≡ a +ℤ pos 1
    ends a = omega (arith, ints)

-- what a number and 1 give
pub next_is : (k : ℤ) (next : Fraction) → checked_sum (whole k) one_value ≡ Ok next → next ≡ whole (k +ℤ pos 1)
next_is k next h = sum_is (whole k) one_value next h ∙ sum_one k
