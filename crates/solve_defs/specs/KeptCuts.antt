-- Cuts whose bounds a program can keep.
use Rattle.std.specs.Prelude.{IfSome}
use Rattle.frac128.specs.Lowest.{IsKept}
use Rattle.solve_defs.specs.Values.{whole}
use Rattle.solve_defs.specs.declared.cut.Cut.{Cut}

-- The cut's bounds fit.
pub record IsKeptCut (cut : Cut) : Type 0 where
  pub lower : IfSome cut.lower (λ k. IsKept (whole k))
  pub upper : IfSome cut.upper (λ k. IsKept (whole k))
