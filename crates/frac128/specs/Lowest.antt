-- What holds of the parts of each fraction that a program keeps.
use Rattle.std.specs.Prelude.{ℕ, ◌<◌, ℤ, unsigned_abs}
use Rattle.std.specs.Int.{IsGcd}
use Rattle.frac128.specs.Fraction.{Fraction, den}
use Rattle.frac128.specs.Numbers.{limit}

-- x is in lowest terms
abbrev pub IsInLowestTerms : Fraction → Type 0
IsInLowestTerms x = IsGcd (unsigned_abs x.num) (den x) 1

-- x is in lowest terms, with both parts below the limit in size
pub record IsKept (x : Fraction) : Type 0 where
  pub nothing_in_common : IsInLowestTerms x
  pub num_fits : unsigned_abs x.num < limit
  pub den_fits : den x < limit

-- the same of the parts num and den, with den above 0
pub record IsLowest (num : ℤ) (den : ℕ) : Type 0 where
  pub den_above_zero : 0 < den
  pub nothing_in_common : IsGcd (unsigned_abs num) den 1
  pub num_fits : unsigned_abs num < limit
  pub den_fits : den < limit
