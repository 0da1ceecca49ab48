-- Certificates: why an outcome is right. What is looked at in one, in order; when it is valid; and what a check answers.
-- Nothing here speaks of how a certificate is found.
use Rattle.std.specs.Prelude.{ℕ, zero, suc, ◌==◌, nat_le, nat_lt, Bool, true, false, not, ◌&&◌, ◌||◌, List, [], ◌∷◌, ◌++◌, length, map, flat_map, filter_map, zip, slice_get, All, Option, Some, None, is_some, is_none, option_map, ℤ, pos, ◌+ℤ◌, unsigned_abs, if◌then◌else◌}
use Rattle.std.specs.List.{enumerate_from, list_all, list_any}
use Rattle.frac128.specs.Fraction.{Fraction, one_value, zero_value}
use Rattle.frac128.specs.Numbers.{limit}
use Rattle.model_data.specs.Size.{is_integer}
use Rattle.model_data.specs.declared.model.Direction.{Direction}
use Rattle.model_data.specs.declared.model.Direction.TheVariants.{Minimize, Maximize}
use Rattle.model_data.specs.declared.model.Model.{Model}
use Rattle.model_data.specs.declared.model.Row.{Row}
use Rattle.model_data.specs.declared.model.Sense.{Sense}
use Rattle.model_data.specs.declared.model.Sense.TheVariants.{Less, Greater, Equal}
use Rattle.model_data.specs.declared.model.Term.{Term}
use Rattle.model_data.specs.declared.model.Var.{Var}
use Rattle.model_data.specs.declared.solution.Cert.{Cert}
use Rattle.model_data.specs.declared.solution.Cert.TheVariants.{Nothing, Ray, Tree}
use Rattle.model_data.specs.declared.solution.CertNode.{CertNode}
use Rattle.model_data.specs.declared.solution.CertNode.TheVariants.{Split, Bound, Farkas}
use Rattle.model_data.specs.declared.solution.Outcome.{Outcome}
use Rattle.model_data.specs.declared.solution.Point.{Point}
use Rattle.model_data.specs.declared.solution.Weight.{Weight}
use Rattle.model_data.specs.declared.solution.Weights.{Weights}
use Rattle.solve_defs.specs.Bounds.{Bounds, at_least_cut, at_most_cut, effective_bounds}
use Rattle.solve_defs.specs.Kinds.{Domain, are_continuous, domain}
use Rattle.solve_defs.specs.Looks.{Holds, Look, Step, minus, minus_times, plus, plus_times, verdict_of}
use Rattle.solve_defs.specs.Values.{is_at_most, is_below, is_same, is_whole, term_of, turned, value_at, whole}
use Rattle.solve_defs.specs.declared.cut.Cut.{Cut}
use Rattle.solve_defs.specs.declared.status.TheConstants.{INFEASIBLE, OPTIMAL, UNBOUNDED}
use Rattle.solve_defs.specs.declared.verdict.Place.{Place}
use Rattle.solve_defs.specs.declared.verdict.Place.TheVariants.{LeafSide, LeafSign, LeafSum, PointBound, PointInteger, PointRow, PointValue, RayBound, RayGain, RayRow, Shape}
use Rattle.solve_defs.specs.declared.verdict.Verdict.{Verdict}

-- ---- the shape

abbrev pub is_split : CertNode → Bool
is_split (Split var k) = true
is_split (Bound weights) = false
is_split (Farkas weights) = false

abbrev pub is_bound : CertNode → Bool
is_bound (Split var k) = false
is_bound (Bound weights) = true
is_bound (Farkas weights) = false

-- Nodes in preorder make up so many trees, none cut short and none behind them.
abbrev pub are_whole : ℕ → List CertNode → Bool
are_whole missing [] = missing == 0
are_whole zero (node ∷ nodes) = false
are_whole (suc missing) (Split var k ∷ nodes) = are_whole (suc (suc missing)) nodes
are_whole (suc missing) (Bound weights ∷ nodes) = are_whole missing nodes
are_whole (suc missing) (Farkas weights ∷ nodes) = are_whole missing nodes

-- a number from 1 to count
abbrev pub is_number_to : ℕ → ℕ → Bool
is_number_to count n = nat_le 1 n && nat_le n count

abbrev pub are_weights_for : Model → Weights → Bool
are_weights_for m weights =
    list_all (λ w. is_number_to (length m.rows) w.place) weights.rows
    && list_all (λ w. is_number_to (length m.vars) w.place) weights.lows
    && list_all (λ w. is_number_to (length m.vars) w.place) weights.ups

-- the variable of this number is an integer one
abbrev pub is_integer_number : List Var → ℕ → Bool
is_integer_number vars zero = false
is_integer_number [] (suc place) = false
is_integer_number (v ∷ vars) (suc zero) = is_integer v.kind
is_integer_number (v ∷ vars) (suc (suc place)) = is_integer_number vars (suc place)

abbrev pub is_node_for : Model → CertNode → Bool
is_node_for m (Split var k) = is_integer_number m.vars var && nat_lt (unsigned_abs k) limit
is_node_for m (Bound weights) = are_weights_for m weights
is_node_for m (Farkas weights) = are_weights_for m weights

abbrev pub is_certificate_for : Model → Outcome → Cert → Bool
is_certificate_for m o Nothing = not (o.status == OPTIMAL || (o.status == INFEASIBLE || o.status == UNBOUNDED))
is_certificate_for m o (Ray point ray) =
    o.status == UNBOUNDED && is_none o.point && are_continuous m.vars
    && (length point == length m.vars) && (length ray == length m.vars)
is_certificate_for m o (Tree nodes) =
    are_whole 1 nodes && list_all (is_node_for m) nodes
    && ((o.status == OPTIMAL && is_some o.point) || (o.status == INFEASIBLE && is_none o.point && not (list_any is_bound nodes)))

abbrev pub is_point_for : Model → Option Point → Bool
is_point_for m None = true
is_point_for m (Some point) = length point.xs == length m.vars

-- the outcome and the certificate go together, and both fit the model
abbrev pub has_shape : Model → Outcome → Cert → Bool
has_shape m o cert = is_point_for m o.point && is_certificate_for m o cert

-- ---- looks

-- a look without operations
abbrev pub look_at : Place → Bool → Look
look_at place holds = record { place = place; start = zero_value; steps = []; holds = λ _. holds }

-- a row's terms at these values
abbrev pub row_steps : List Term → List Fraction → List Step
row_steps terms xs = map (λ t. plus_times t.coef (value_at xs t.var)) terms

-- the objective's terms at these values
abbrev pub objective_steps : Model → List Fraction → List Step
objective_steps m xs = map (λ p. plus_times p.0 p.1) (zip (map (λ v. v.obj) m.vars) xs)

abbrev pub compares : Sense → Fraction → Fraction → Bool
compares Less x y = is_at_most x y
compares Greater x y = is_at_most y x
compares Equal x y = is_same x y

-- x is at least the lower bound, where there is one
abbrev pub is_above : Option Fraction → Fraction → Bool
is_above None x = true
is_above (Some lower) x = is_at_most lower x

abbrev pub is_under : Option Fraction → Fraction → Bool
is_under None x = true
is_under (Some upper) x = is_at_most x upper

abbrev pub is_within : Bounds → Fraction → Bool
is_within bounds x = is_above bounds.lower x && is_under bounds.upper x

-- x stands in one of the domain's ranges
abbrev pub is_in_range : Domain → Fraction → Bool
is_in_range domain x = list_any (λ bounds. is_within bounds x) domain.ranges

-- x is whole where the domain asks for that
abbrev pub is_whole_if_asked : Domain → Fraction → Bool
is_whole_if_asked domain x = not domain.whole || is_whole x

-- ---- a point

abbrev pub point_row : List Fraction → ℕ × Row → Look
point_row xs (number, row) = record { place = PointRow number; start = zero_value; steps = row_steps row.terms xs; holds = λ sum. compares row.sense sum row.rhs }

abbrev pub point_bound : ℕ × (Var × Fraction) → Look
point_bound (number, p) = look_at (PointBound number) (is_in_range (domain p.0) p.1)

abbrev pub point_integer : ℕ × (Var × Fraction) → Look
point_integer (number, p) = look_at (PointInteger number) (is_whole_if_asked (domain p.0) p.1)

abbrev pub point_value : Model → Point → Look
point_value m point = record { place = PointValue; start = m.constant; steps = objective_steps m point.xs; holds = λ sum. is_same sum point.value }

-- each row, each bound, each integer variable, and the value
abbrev pub point_looks : Model → Option Point → List Look
point_looks m None = []
point_looks m (Some point) =
    map (point_row point.xs) (enumerate_from 1 m.rows)
    ++ map point_bound (enumerate_from 1 (zip m.vars point.xs))
    ++ map point_integer (enumerate_from 1 (zip m.vars point.xs))
    ++ point_value m point ∷ []

-- ---- a leaf

-- What a leaf's combination has to be: its coefficients, what its side begins with, and whether the side is low enough.
pub record Claim : Type 0 where
  pub coefs : List Fraction
  pub constant : Fraction
  pub holds : Fraction → Bool

abbrev pub value_of : Option Point → Fraction
value_of None = zero_value
value_of (Some point) = point.value

-- no point of the leaf is better than the value: the combination is the objective, to be maximized
abbrev pub bound_claim : Model → Fraction → Claim
bound_claim m value = record {
  coefs = map (λ v. turned m.direction v.obj) m.vars;
  constant = turned m.direction m.constant;
  holds = λ side. is_at_most side (turned m.direction value);
}

-- the leaf has no point: the combination is 0, which would be at most less than 0
abbrev pub farkas_claim : Model → Claim
farkas_claim m = record { coefs = map (λ _. zero_value) m.vars; constant = zero_value; holds = λ side. is_below side zero_value }

abbrev pub is_negative_or_zero : Fraction → Bool
is_negative_or_zero x = is_at_most x zero_value

abbrev pub is_positive_or_zero : Fraction → Bool
is_positive_or_zero x = is_at_most zero_value x

-- A weight may not turn a row about.
abbrev pub may_weigh_sense : Sense → Fraction → Bool
may_weigh_sense Less x = is_positive_or_zero x
may_weigh_sense Greater x = is_negative_or_zero x
may_weigh_sense Equal x = true

abbrev pub may_weigh_row : Option Row → Fraction → Bool
may_weigh_row None x = false
may_weigh_row (Some row) x = may_weigh_sense row.sense x

-- a bound's weight isn't below 0, and the bound is there
abbrev pub may_weigh_bound : Option Fraction → Fraction → Bool
may_weigh_bound bound x = is_some bound && is_positive_or_zero x

-- the item of this number, counted from 1
abbrev pub nth : {A : Type 0} → List A → ℕ → Option A
nth xs zero = None
nth xs (suc place) = slice_get xs place

abbrev pub lower_of : Option Bounds → Option Fraction
lower_of None = None
lower_of (Some bounds) = bounds.lower

abbrev pub upper_of : Option Bounds → Option Fraction
upper_of None = None
upper_of (Some bounds) = bounds.upper

abbrev pub sign_looks : Model → List Bounds → ℕ → Weights → List Look
sign_looks m bounds leaf weights =
    map (λ w. look_at (LeafSign leaf 0 w.place) (may_weigh_row (nth m.rows w.place) w.weight)) weights.rows
    ++ map (λ w. look_at (LeafSign leaf 1 w.place) (may_weigh_bound (lower_of (nth bounds w.place)) w.weight)) weights.lows
    ++ map (λ w. look_at (LeafSign leaf 2 w.place) (may_weigh_bound (upper_of (nth bounds w.place)) w.weight)) weights.ups

abbrev pub terms_of : Option Row → List Term
terms_of None = []
terms_of (Some row) = row.terms

abbrev pub row_share : Model → ℕ → Weight → Option Step
row_share m place w = option_map (plus_times w.weight) (term_of (terms_of (nth m.rows w.place)) place)

abbrev pub share : (Fraction → Step) → ℕ → Weight → Option Step
share step number w = if w.place == number then Some (step w.weight) else None

-- what the rows and the bounds of the variable of this number have of it
abbrev pub sum_steps : Model → Weights → ℕ → ℕ → List Step
sum_steps m weights place number =
    filter_map (row_share m place) weights.rows ++ filter_map (share minus number) weights.lows ++ filter_map (share plus number) weights.ups

abbrev pub sums_from : Model → ℕ → Weights → ℕ → List Fraction → List Look
sums_from m leaf weights place [] = []
sums_from m leaf weights place (coef ∷ coefs) =
    record { place = LeafSum leaf (suc place); start = zero_value; steps = sum_steps m weights place (suc place); holds = λ sum. is_same sum coef }
    ∷ sums_from m leaf weights (suc place) coefs

abbrev pub side_of : Option Row → Fraction
side_of None = zero_value
side_of (Some row) = row.rhs

abbrev pub side_steps : Model → List Bounds → Weights → List Step
side_steps m bounds weights =
    map (λ w. plus_times w.weight (side_of (nth m.rows w.place))) weights.rows
    ++ filter_map (λ w. option_map (minus_times w.weight) (lower_of (nth bounds w.place))) weights.lows
    ++ filter_map (λ w. option_map (plus_times w.weight) (upper_of (nth bounds w.place))) weights.ups

-- its signs, its sums, and its side, under the cuts on the way to it
abbrev pub leaf_looks : Model → List Cut → ℕ → Claim → Weights → List Look
leaf_looks m cuts leaf claim weights = let bounds = effective_bounds m cuts in
    sign_looks m bounds leaf weights
    ++ sums_from m leaf weights 0 claim.coefs
    ++ record { place = LeafSide leaf; start = claim.constant; steps = side_steps m bounds weights; holds = claim.holds } ∷ []

-- ---- a tree

-- a subtree that is to come: under these cuts; or the upper one of a split, under these and where the variable is above the number
pub data Subtree : Type 0 where
  under : List Cut → Subtree
  above : List Cut → ℕ → ℤ → Subtree

abbrev pub cuts_of : Subtree → List Cut
cuts_of (under cuts) = cuts
cuts_of (above cuts place k) = cuts ++ at_least_cut place (k +ℤ pos 1) ∷ []

-- To enter an upper subtree 1 is added to the split's number. The sum is taken as it is.
abbrev pub entering_looks : Subtree → List Look
entering_looks (under cuts) = []
entering_looks (above cuts place k) = record { place = Shape; start = whole k; steps = plus one_value ∷ []; holds = λ _. true } ∷ []

abbrev pub pred_number : ℕ → ℕ
pred_number zero = zero
pred_number (suc place) = place

abbrev pub halves : List Cut → ℕ → ℤ → List Subtree
halves cuts place k = under (cuts ++ at_most_cut place k ∷ []) ∷ above cuts place k ∷ []

-- The nodes in preorder, with the subtrees that are to come, the next one first. Leaves are numbered from the given one on, and bounded by the value.
abbrev pub tree_looks : Model → Fraction → ℕ → List Subtree → List CertNode → List Look
tree_looks m value leaf later [] = []
tree_looks m value leaf [] (node ∷ nodes) = []
tree_looks m value leaf (own ∷ later) (Split var k ∷ nodes) =
    entering_looks own ++ tree_looks m value leaf (halves (cuts_of own) (pred_number var) k ++ later) nodes
tree_looks m value leaf (own ∷ later) (Bound weights ∷ nodes) =
    entering_looks own ++ leaf_looks m (cuts_of own) leaf (bound_claim m value) weights ++ tree_looks m value (suc leaf) later nodes
tree_looks m value leaf (own ∷ later) (Farkas weights ∷ nodes) =
    entering_looks own ++ leaf_looks m (cuts_of own) leaf (farkas_claim m) weights ++ tree_looks m value (suc leaf) later nodes

-- ---- a ray

abbrev pub keeps_along : Sense → Fraction → Bool
keeps_along Less x = is_negative_or_zero x
keeps_along Greater x = is_positive_or_zero x
keeps_along Equal x = is_same x zero_value

-- the row at the point, and along the direction
abbrev pub ray_row : List Fraction → List Fraction → ℕ × Row → List Look
ray_row point ray (number, row) =
    record { place = RayRow number; start = zero_value; steps = row_steps row.terms point; holds = λ sum. compares row.sense sum row.rhs }
    ∷ record { place = RayRow number; start = zero_value; steps = row_steps row.terms ray; holds = λ sum. keeps_along row.sense sum } ∷ []

-- No finite bound is left along the direction.
abbrev pub stays_within : Bounds → Fraction → Bool
stays_within bounds x = (is_none bounds.lower || is_positive_or_zero x) && (is_none bounds.upper || is_negative_or_zero x)

abbrev pub ray_bound : ℕ × (Bounds × (Fraction × Fraction)) → Look
ray_bound (number, p) = look_at (RayBound number) (is_within p.0 p.1.0 && stays_within p.0 p.1.1)

abbrev pub gains : Direction → Fraction → Bool
gains Minimize x = is_below x zero_value
gains Maximize x = is_below zero_value x

abbrev pub ray_gain : Model → List Fraction → Look
ray_gain m ray = record { place = RayGain; start = zero_value; steps = objective_steps m ray; holds = gains m.direction }

abbrev pub ray_looks : Model → List Fraction → List Fraction → List Look
ray_looks m point ray =
    flat_map (ray_row point ray) (enumerate_from 1 m.rows)
    ++ map ray_bound (enumerate_from 1 (zip (effective_bounds m []) (zip point ray)))
    ++ ray_gain m ray ∷ []

-- ---- all of it

abbrev pub certificate_looks : Model → Outcome → Cert → List Look
certificate_looks m o Nothing = []
certificate_looks m o (Ray point ray) = ray_looks m point ray
certificate_looks m o (Tree nodes) = tree_looks m (value_of o.point) 1 (under [] ∷ []) nodes

-- what is looked at, in order
abbrev pub looks : Model → Outcome → Cert → List Look
looks m o cert = look_at Shape (has_shape m o cert) ∷ point_looks m o.point ++ certificate_looks m o cert

-- The certificate shows that the outcome is right.
abbrev pub IsValid : Model → Outcome → Cert → Type 0
IsValid m o cert = All Holds (looks m o cert)

-- what a check answers
unfoldable pub verdict : Model → Outcome → Cert → Verdict
verdict m o cert = verdict_of (looks m o cert)
