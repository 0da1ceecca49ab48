-- What is looked at in a leaf, by the bounds of the variables.
use Rattle.std.specs.Prelude.{ℕ, suc, List, [], ◌∷◌, ◌++◌, length, map, filter_map, option_map}
use Rattle.frac128.specs.Fraction.{Fraction, zero_value}
use Rattle.model_data.specs.declared.model.Model.{Model}
use Rattle.model_data.specs.declared.model.Row.{Row}
use Rattle.model_data.specs.declared.model.Var.{Var}
use Rattle.model_data.specs.declared.solution.Weight.{Weight}
use Rattle.model_data.specs.declared.solution.Weights.{Weights}
use Rattle.solve_defs.specs.Bounds.{Bounds}
use Rattle.solve_defs.specs.Certificates.{Claim, bound_claim, farkas_claim, lower_of, may_weigh_bound, may_weigh_row, nth, side_of, side_steps, sign_looks, sums_from, upper_of, look_at}
use Rattle.solve_defs.specs.Looks.{Look, Step, after_look, minus_times, plus_times}
use Rattle.solve_defs.specs.Values.{is_same, turned}
use Rattle.solve_defs.specs.declared.verdict.Place.TheVariants.{LeafSide, LeafSign, LeafSum}
use Rattle.solve_defs.specs.declared.verdict.Verdict.{Verdict}
use Rattle.solve_defs.specs.declared.verdict.Verdict.TheVariants.{Valid}
use Rattle.cert_check.specs.Sums.{AreNumbered, Sum}
use Rattle.cert_check.specs.declared.claim.Claim.{Claim as Claimed}
use Rattle.cert_check.specs.declared.claim.Claim.TheVariants.{NoPoint, NoneBetter}

-- ---- what is claimed

abbrev pub claim_by : Model → Claimed → Claim
claim_by m (NoneBetter value) = bound_claim m value
claim_by m NoPoint = farkas_claim m

-- what the coefficient of a variable has to be
abbrev pub coef_by : Model → Claimed → Var → Fraction
coef_by m (NoneBetter value) v = turned m.direction v.obj
coef_by m NoPoint v = zero_value

-- ---- its looks

abbrev pub side_look : Model → List Bounds → ℕ → Claim → Weights → Look
side_look m bounds leaf claim weights =
    record { place = LeafSide leaf; start = claim.constant; steps = side_steps m bounds weights; holds = claim.holds }

-- the looks of a leaf under any cuts with these effective bounds
abbrev pub looks_within : Model → List Bounds → ℕ → Claim → Weights → List Look
looks_within m bounds leaf claim weights =
    sign_looks m bounds leaf weights ++ sums_from m leaf weights 0 claim.coefs ++ side_look m bounds leaf claim weights ∷ []

abbrev pub row_signs : List Row → ℕ → List Weight → List Look
row_signs rows leaf ws = map (λ w. look_at (LeafSign leaf 0 w.place) (may_weigh_row (nth rows w.place) w.weight)) ws

abbrev pub low_signs : List Bounds → ℕ → List Weight → List Look
low_signs bounds leaf ws = map (λ w. look_at (LeafSign leaf 1 w.place) (may_weigh_bound (lower_of (nth bounds w.place)) w.weight)) ws

abbrev pub up_signs : List Bounds → ℕ → List Weight → List Look
up_signs bounds leaf ws = map (λ w. look_at (LeafSign leaf 2 w.place) (may_weigh_bound (upper_of (nth bounds w.place)) w.weight)) ws

-- ---- its side

abbrev pub row_sides : List Row → List Weight → List Step
row_sides rows ws = map (λ w. plus_times w.weight (side_of (nth rows w.place))) ws

abbrev pub low_sides : List Bounds → List Weight → List Step
low_sides bounds ws = filter_map (λ w. option_map (minus_times w.weight) (lower_of (nth bounds w.place))) ws

abbrev pub up_sides : List Bounds → List Weight → List Step
up_sides bounds ws = filter_map (λ w. option_map (plus_times w.weight) (upper_of (nth bounds w.place))) ws

-- ---- its sums

-- a sum that was formed, held against a coefficient
abbrev pub sum_look : ℕ → ℕ → Fraction → Look
sum_look leaf place coef = record { place = LeafSum leaf (suc place); start = zero_value; steps = []; holds = λ sum. is_same sum coef }

-- the sums from this place on, held against the coefficients
abbrev pub compared : ℕ → ℕ → List Sum → List Fraction → Verdict
compared leaf place [] coefs = Valid
compared leaf place (sum ∷ sums) [] = Valid
compared leaf place (sum ∷ sums) (coef ∷ coefs) = after_look (sum_look leaf place coef) sum (compared leaf (suc place) sums coefs)

-- The numbers of the weights are those of rows and variables.
pub record Fit (m : Model) (weights : Weights) : Type 0 where
  pub rows : AreNumbered (length m.rows) weights.rows
  pub lows : AreNumbered (length m.vars) weights.lows
  pub ups : AreNumbered (length m.vars) weights.ups
