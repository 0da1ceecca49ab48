-- Whole numbers as fractions.
use Rattle.std.proofs.Common.{◌≡◌, ◌∙◌, refl, subst, ap, ℕ, ◌≢◌, ℤ, pos, inr, Option, Some, None, arith}
use Rattle.std.proofs.lemmas.Int.{ints}
use Rattle.std.specs.Int.{IsGcd}
use Rattle.std.specs.Option.{SomeIff}
use Rattle.std.specs.Prelude.{unsigned_abs}
use Rattle.std.proofs.Math.Nat.{div-one}
use Rattle.frac128.specs.Fits.{FitsReduced}
use Rattle.frac128.specs.Fraction.{Fraction, quotient}
use Rattle.frac128.specs.Numbers.{gcd}
use Rattle.frac128.proofs.Divisors.{gcd-divides, gcd-with_one}
use Rattle.frac128.proofs.Field.{lowest-self}
use Rattle.frac128.proofs.Fitting.{FitsReduced-is}
use Rattle.solve_defs.specs.Values.{whole}
use Rattle.std_form.specs.Cuts.{IsSmall}

gcd-one : (n : ℕ) → gcd n 1 ≡ 1
gcd-one n = gcd-with_one n 1 (inr refl)

over_one : (n : ℤ) → quotient n (pos 1) ≡ whole n
over_one n = lowest-self (whole n) (subst (λ g. IsGcd (unsigned_abs n) 1 g) (gcd-one (unsigned_abs n)) (gcd-divides (unsigned_abs n) 1))

over_one-fits : (n : ℤ) → IsSmall n → FitsReduced (unsigned_abs n) 1
over_one-fits n small =
    let one = gcd-one (unsigned_abs n) in
    (FitsReduced-is (unsigned_abs n) 1).1 (rw (one, div-one (unsigned_abs n)) (small, omega arith))

not_zero : pos 1 ≢ pos 0
not_zero e = omega (arith, ints, e)

-- what a program makes of a whole number that is small enough
pub over_one-made : (n : ℤ) (made : Option Fraction) → IsSmall n → SomeIff made ((pos 1 ≢ pos 0) × FitsReduced (unsigned_abs n) 1) (quotient n (pos 1))
    → made ≡ Some (whole n)
over_one-made n None small told = absurd (told (not_zero, over_one-fits n small))
over_one-made n (Some x) small told = ap Some (told.1 ∙ over_one n)
