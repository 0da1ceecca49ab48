-- Sums as they are formed: of one variable, and of all variables side by side.
use Rattle.std.specs.Prelude.{ℕ, suc, ◌-◌, ◌≤◌, List, [], ◌∷◌, length, map, replicate, zip, slice_index_or, slice_set, All, Result, Ok}
use Rattle.frac128.specs.Checked.{◌>>=◌}
use Rattle.frac128.specs.Fraction.{Fraction, zero_value}
use Rattle.frac128.specs.declared.operations.Wide.{Wide}
use Rattle.model_data.specs.declared.model.Model.{Model}
use Rattle.model_data.specs.declared.model.Row.{Row}
use Rattle.model_data.specs.declared.model.Term.{Term}
use Rattle.model_data.specs.declared.model.Var.{Var}
use Rattle.model_data.specs.declared.solution.Weight.{Weight}
use Rattle.model_data.specs.declared.solution.Weights.{Weights}
use Rattle.solve_defs.specs.Certificates.{nth, terms_of}
use Rattle.solve_defs.specs.Looks.{Step, checked_step, minus, plus, plus_times}

-- the terms of the objective of these variables at these values
abbrev pub terms_at : List Var → List Fraction → List Step
terms_at vars xs = map (λ p. plus_times p.0 p.1) (zip (map (λ v. v.obj) vars) xs)

-- a sum so far, or the first of its operations that doesn't fit
abbrev pub Sum : Type 0
Sum = Result Fraction Wide

abbrev pub no_sum : Sum
no_sum = Ok zero_value

-- the sum with one more step
abbrev pub stepped : Sum → Step → Sum
stepped sum step = sum >>= λ total. checked_step total step

abbrev pub sum_at : List Sum → ℕ → Sum
sum_at sums place = slice_index_or sums place no_sum

-- the sums with one more step of the variable of this place
abbrev pub with_step : ℕ → Step → List Sum → List Sum
with_step place step sums = slice_set sums place (stepped (sum_at sums place) step)

-- with the terms of a row
abbrev pub with_terms : Fraction → List Term → List Sum → List Sum
with_terms weight [] sums = sums
with_terms weight (t ∷ terms) sums = with_terms weight terms (with_step t.var (plus_times weight t.coef) sums)

-- with the terms of each row that has a weight
abbrev pub with_rows : List Row → List Weight → List Sum → List Sum
with_rows rows [] sums = sums
with_rows rows (w ∷ ws) sums = with_rows rows ws (with_terms w.weight (terms_of (nth rows w.place)) sums)

-- with a step for each bound that has a weight
abbrev pub with_bounds : (Fraction → Step) → List Weight → List Sum → List Sum
with_bounds step [] sums = sums
with_bounds step (w ∷ ws) sums = with_bounds step ws (with_step (w.place - 1) (step w.weight) sums)

-- with all that a leaf's weights make of the rows and the bounds of a model, from 0 on
abbrev pub leaf_sums : Model → Weights → List Sum
leaf_sums m weights = with_bounds plus weights.ups (with_bounds minus weights.lows (with_rows m.rows weights.rows (replicate (length m.vars) no_sum)))

-- Each weight has a number from 1 to count.
pub record HasNumber (count : ℕ) (w : Weight) : Type 0 where
  pub above_zero : 1 ≤ w.place
  pub within : w.place ≤ count

abbrev pub AreNumbered : ℕ → List Weight → Type 0
AreNumbered count ws = All (HasNumber count) ws
