-- What the weights of a certificate's leaf have to meet, and the side that they prove.
use Rattle.std.specs.Prelude.{ℕ, List, All, map}
use Rattle.frac128.specs.Fraction.{Fraction, negation, zero_value}
use Rattle.model_data.specs.declared.model.Direction.{Direction}
use Rattle.model_data.specs.declared.model.Direction.TheVariants.{Minimize, Maximize}
use Rattle.model_data.specs.declared.model.Model.{Model}
use Rattle.model_data.specs.declared.solution.Weights.{Weights}
use Rattle.solve_defs.specs.Bounds.{effective_bounds}
use Rattle.solve_defs.specs.Certificates.{side_steps, sign_looks, sums_from}
use Rattle.solve_defs.specs.Looks.{Holds, total_of}
use Rattle.solve_defs.specs.Points.{AtMost, Ratio, ratio}
use Rattle.solve_defs.specs.Values.{turned}
use Rattle.solve_defs.specs.declared.cut.Cut.{Cut}

-- The weights turn no row and no bound about, and what they make of the rows and the bounds has these coefficients.
pub record Combines (m : Model) (cuts : List Cut) (leaf : ℕ) (weights : Weights) (coefs : List Fraction) : Type 0 where
  pub signs : All Holds (sign_looks m (effective_bounds m cuts) leaf weights)
  pub sums : All Holds (sums_from m leaf weights 0 coefs)

-- the objective's coefficients, to be maximized
abbrev pub objective_to_maximize : Model → List Fraction
objective_to_maximize m = map (λ v. turned m.direction v.obj) m.vars

-- no coefficients
abbrev pub no_coefs : Model → List Fraction
no_coefs m = map (λ _. zero_value) m.vars

-- the right sides with their weights, and what they are added to
abbrev pub side_on : Fraction → Model → List Cut → Weights → Fraction
side_on constant m cuts weights = total_of constant (side_steps m (effective_bounds m cuts) weights)

-- The value, to be maximized, is at most the side.
abbrev pub IsNoBetterThanSide : Direction → Ratio → Fraction → Type 0
IsNoBetterThanSide Minimize value side = AtMost (ratio (negation side)) value
IsNoBetterThanSide Maximize value side = AtMost value (ratio side)
