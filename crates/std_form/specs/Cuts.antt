-- Which cuts a model can be given.
use Rattle.std.specs.Prelude.{ℕ, ◌<◌, ◌^◌, ℤ, IfSome, unsigned_abs}
use Rattle.solve_defs.specs.declared.cut.Cut.{Cut}

-- it is a numerator
abbrev pub IsSmall : ℤ → Type 0
IsSmall n = unsigned_abs n < 2 ^ 127

-- Both bounds are fractions of the program.
pub record HasFractions (cut : Cut) : Type 0 where
  pub lower : IfSome cut.lower IsSmall
  pub upper : IfSome cut.upper IsSmall

-- And its variable is one of so many.
pub record IsCutOf (vars : ℕ) (cut : Cut) : Type 0 where
  pub within : cut.var < vars
  pub fractions : HasFractions cut
