-- What a check answers of worked certificates.
use Rattle.std.proofs.Common.{◌≡◌, refl, ℕ, ◌-◌, ◌^◌, List, [], ◌∷◌, Option, Some, None, codes, ℤ, pos, negsuc}
use Rattle.frac128.specs.Fits.{product_fits, sum_fits}
use Rattle.frac128.specs.Fraction.{Fraction, exact_product, exact_sum, inverse, lowest, one_value, zero_value}
use Rattle.frac128.specs.Numbers.{gcd, gcd_within}
use Rattle.frac128.specs.declared.operations.Op.TheVariants.{Add, Mul}
use Rattle.model_data.specs.Params.{usual_params}
use Rattle.model_data.specs.declared.model.Model.{Model}
use Rattle.model_data.specs.declared.model.Direction.TheVariants.{Maximize}
use Rattle.model_data.specs.declared.model.Sense.TheVariants.{Less}
use Rattle.model_data.specs.declared.model.VarKind.TheVariants.{Continuous, Integer}
use Rattle.model_data.specs.declared.params.Params.{Params}
use Rattle.model_data.specs.declared.solution.Cert.{Cert}
use Rattle.model_data.specs.declared.solution.Cert.TheVariants.{Nothing, Ray, Tree}
use Rattle.model_data.specs.declared.solution.CertNode.{CertNode}
use Rattle.model_data.specs.declared.solution.CertNode.TheVariants.{Split, Bound, Farkas}
use Rattle.model_data.specs.declared.solution.Outcome.{Outcome}
use Rattle.model_data.specs.declared.solution.Point.{Point}
use Rattle.model_data.specs.declared.solution.Weight.{Weight}
use Rattle.model_data.specs.declared.solution.Weights.{Weights}
use Rattle.solve_defs.specs.Certificates.{verdict}
use Rattle.solve_defs.specs.Plain.{Ended, cut_off}
use Rattle.solve_defs.specs.declared.verdict.Place.TheVariants.{LeafSide, LeafSign, LeafSum, PointBound, PointInteger, PointRow, PointValue, RayBound, RayGain, RayRow, Shape}
use Rattle.solve_defs.specs.declared.verdict.Verdict.{Verdict}
use Rattle.solve_defs.specs.declared.verdict.Verdict.TheVariants.{Valid, Invalid, TooWide}
use Rattle.solve_defs.proofs.Models.{at_least_one, beale, flat, free_one, half_binary, huge, minus, model, narrow, number, part, plain, rising, row, shipping, steep, term, too_little, two_by_two, two_by_two_whole, upper_alone}
use Rattle.solve_defs.proofs.Worked.{solved, weight}

-- a check with every definition open that it is made of
abbrev answer : Model → Outcome → Cert → Verdict
unfolding verdict exact_sum exact_product inverse lowest gcd gcd_within sum_fits product_fits
answer m o cert = verdict m o cert

-- what a check answers of the solver's own outcome
abbrev own_answer : Model → Params → Verdict
unfolding answer solved
own_answer m p = let ended : Ended = cut_off (solved m p).progress in answer m ended.outcome ended.cert

own_answers :
    (own_answer at_least_one usual_params ≡ Valid) × (own_answer two_by_two usual_params ≡ Valid) × (own_answer two_by_two_whole usual_params ≡ Valid)
    × (own_answer half_binary usual_params ≡ Valid) × (own_answer too_little usual_params ≡ Valid) × (own_answer (rising Continuous) usual_params ≡ Valid)
    × (own_answer (rising Integer) usual_params ≡ Valid) × (own_answer beale usual_params ≡ Valid) × (own_answer steep usual_params ≡ Valid)
    × (own_answer (narrow Continuous) usual_params ≡ Valid) × (own_answer flat usual_params ≡ Valid)
    × (own_answer two_by_two_whole (record usual_params { nodes = 3 }) ≡ Valid) × (own_answer upper_alone usual_params ≡ Valid)
    × (own_answer free_one usual_params ≡ Valid) × (own_answer shipping usual_params ≡ Valid)
unfolding own_answer
own_answers = (refl, refl, refl, refl, refl, refl, refl, refl, refl, refl, refl, refl, refl, refl, refl)

abbrev outcome : ℕ → Option Point → Outcome
outcome status point = record { status = status; pivots = 0; nodes = 0; work = 0; point = point; wide = None }

abbrev at_point : List Fraction → Fraction → Option Point
at_point xs value = Some record { xs = xs; value = value }

abbrev weights : List Weight → List Weight → List Weight → Weights
weights rows lows ups = record { rows = rows; lows = lows; ups = ups }

-- ---- a model without a point

too_little_weights : Fraction → Cert
too_little_weights last = Tree (Farkas (weights (weight 1 (minus (part 1 3)) ∷ []) [] (weight 1 (part 1 3) ∷ weight 2 last ∷ [])) ∷ [])

too_little_checked : (answer too_little (outcome 3 None) (too_little_weights (part 1 3)) ≡ Valid) × (answer too_little (outcome 3 None) (too_little_weights (part 1 4)) ≡ Invalid (LeafSum 1 2))
unfolding answer too_little_weights
too_little_checked = (refl, refl)

-- ---- the two rows, with weights 2/5 and 1/5

two_weights : Fraction → Fraction → Cert
two_weights x y = Tree (Bound (weights (weight 1 x ∷ weight 2 y ∷ []) [] []) ∷ [])

two_by_two_point : Option Point
two_by_two_point = at_point (part 6 5 ∷ part 8 5 ∷ []) (part 14 5)

two_by_two_checked :
    (answer two_by_two (outcome 2 two_by_two_point) (two_weights (part 2 5) (part 1 5)) ≡ Valid)
    × (answer two_by_two (outcome 2 two_by_two_point) (two_weights (part 1 2) (minus (part 1 5))) ≡ Invalid (LeafSign 1 0 2))
    × (answer two_by_two (outcome 2 two_by_two_point) (two_weights (part 1 2) (part 1 5)) ≡ Invalid (LeafSum 1 1))
    × (answer two_by_two (outcome 2 (at_point (number 1 ∷ number 1 ∷ []) (number 2))) (two_weights (part 2 5) (part 1 5)) ≡ Invalid (LeafSide 1))
    × (answer two_by_two (outcome 2 (at_point (number 1 ∷ number 1 ∷ []) (number 3))) (two_weights (part 2 5) (part 1 5)) ≡ Invalid PointValue)
    × (answer two_by_two (outcome 2 (at_point (number 1 ∷ number 2 ∷ []) (number 3))) (two_weights (part 2 5) (part 1 5)) ≡ Invalid (PointRow 2))
    × (answer two_by_two (outcome 2 (at_point (number 1 ∷ minus (number 1) ∷ []) zero_value)) (two_weights (part 2 5) (part 1 5)) ≡ Invalid (PointBound 2))
    × (answer two_by_two_whole (outcome 7 two_by_two_point) Nothing ≡ Invalid (PointInteger 1))
    × (answer two_by_two (outcome 2 None) (two_weights (part 2 5) (part 1 5)) ≡ Invalid Shape)
    × (answer two_by_two (outcome 2 (at_point (number 1 ∷ []) (number 1))) (two_weights (part 2 5) (part 1 5)) ≡ Invalid Shape)
    × (answer two_by_two (outcome 3 None) (two_weights (part 2 5) (part 1 5)) ≡ Invalid Shape)
    × (answer two_by_two (outcome 2 two_by_two_point) (Tree (Bound (weights (weight 3 (part 2 5) ∷ []) [] []) ∷ [])) ≡ Invalid Shape)
    × (answer two_by_two (outcome 2 two_by_two_point) (Tree (Bound (weights (weight 0 (part 2 5) ∷ []) [] []) ∷ [])) ≡ Invalid Shape)
    × (answer two_by_two (outcome 99 None) Nothing ≡ Valid) × (answer two_by_two (outcome 99 None) (two_weights (part 2 5) (part 1 5)) ≡ Invalid Shape)
    × (answer two_by_two (outcome 2 two_by_two_point) (Tree (Bound (weights [] [] (weight 1 one_value ∷ [])) ∷ [])) ≡ Invalid (LeafSign 1 2 1))
unfolding answer two_weights two_by_two_point
two_by_two_checked = (refl, refl, refl, refl, refl, refl, refl, refl, refl, refl, refl, refl, refl, refl, refl, refl)

-- ---- trees

no_weights : Weights
no_weights = weights [] [] []

split_of : ℕ → ℤ → Cert
split_of var k = Tree (Split var k ∷ Bound no_weights ∷ Bound no_weights ∷ [])

-- the tree of the whole model, with the second leaf's weight of the second row, and with these nodes for the last leaf
whole_tree : Fraction → List CertNode → Cert
whole_tree x last = Tree (
    Split 1 (pos 1) ∷ Split 2 (pos 1)
    ∷ Bound (weights [] [] (weight 1 one_value ∷ weight 2 one_value ∷ []))
    ∷ Bound (weights (weight 2 x ∷ []) (weight 2 (number 2) ∷ []) [])
    ∷ last)

last_leaf : CertNode
last_leaf = Bound (weights (weight 1 one_value ∷ []) (weight 1 one_value ∷ []) [])

one_and_one : Option Point
one_and_one = at_point (number 1 ∷ number 1 ∷ []) (number 2)

trees_checked :
    (answer two_by_two_whole (outcome 2 one_and_one) (whole_tree one_value (last_leaf ∷ [])) ≡ Valid)
    × (answer two_by_two_whole (outcome 2 one_and_one) (whole_tree (number 2) (last_leaf ∷ [])) ≡ Invalid (LeafSum 2 1))
    × (answer two_by_two_whole (outcome 2 one_and_one) (whole_tree one_value []) ≡ Invalid Shape)
    × (answer two_by_two_whole (outcome 2 one_and_one) (whole_tree one_value (last_leaf ∷ last_leaf ∷ [])) ≡ Invalid Shape)
    × (answer two_by_two_whole (outcome 2 one_and_one) (whole_tree one_value (Bound (weights [] (weight 1 one_value ∷ []) (weight 1 (number 2) ∷ weight 2 one_value ∷ [])) ∷ [])) ≡ Invalid (LeafSign 3 2 1))
    × (answer two_by_two_whole (outcome 2 one_and_one) (split_of 0 (pos 1)) ≡ Invalid Shape)
    × (answer two_by_two_whole (outcome 2 one_and_one) (split_of 3 (pos 1)) ≡ Invalid Shape)
    × (answer two_by_two (outcome 2 one_and_one) (split_of 1 (pos 1)) ≡ Invalid Shape)
    × (answer two_by_two_whole (outcome 2 one_and_one) (split_of 1 (negsuc (2 ^ 127 - 1))) ≡ Invalid Shape)
    × (answer two_by_two_whole (outcome 2 one_and_one) (split_of 1 (negsuc (2 ^ 127 - 2))) ≡ Invalid (LeafSum 1 1))
unfolding answer no_weights split_of whole_tree last_leaf one_and_one
trees_checked = (refl, refl, refl, refl, refl, refl, refl, refl, refl, refl)

-- maximize x, a whole number, where x <= -1
below_zero : Model
below_zero = model Maximize (plain (codes "x") one_value Integer ∷ []) (row (codes "c") (term 0 one_value ∷ []) Less (minus one_value) ∷ [])

row_and_bound : CertNode
row_and_bound = Farkas (weights (weight 1 one_value ∷ []) (weight 1 one_value ∷ []) [])

-- The number past a split's is formed when its upper subtree is entered.
upper_number :
    (answer below_zero (outcome 3 None) (Tree (Split 1 (pos (2 ^ 127 - 1)) ∷ row_and_bound ∷ row_and_bound ∷ [])) ≡ TooWide record { op = Add; left = number (2 ^ 127 - 1); right = one_value })
    × (answer below_zero (outcome 3 None) (Tree (Split 1 (pos (2 ^ 127 - 1)) ∷ Farkas no_weights ∷ row_and_bound ∷ [])) ≡ Invalid (LeafSide 1))
    × (answer below_zero (outcome 3 None) (Tree (Split 1 (pos 7) ∷ row_and_bound ∷ row_and_bound ∷ [])) ≡ Valid)
    × (answer below_zero (outcome 3 None) (Tree (Split 1 (pos 7) ∷ row_and_bound ∷ Farkas no_weights ∷ [])) ≡ Invalid (LeafSide 2))
    × (answer below_zero (outcome 3 None) (Tree (Split 1 (pos 7) ∷ row_and_bound ∷ Bound no_weights ∷ [])) ≡ Invalid Shape)
unfolding answer no_weights below_zero row_and_bound
upper_number = (refl, refl, refl, refl, refl)

-- ---- operations that don't fit

steep_checked : answer steep (outcome 7 (at_point (huge ∷ zero_value ∷ []) zero_value)) Nothing ≡ TooWide record { op = Mul; left = huge; right = huge }
unfolding answer
steep_checked = refl

-- maximize 10^30 x, where 10^30 x + y <= 1
very_steep : Model
very_steep = model Maximize (plain (codes "x") huge Continuous ∷ plain (codes "y") zero_value Continuous ∷ []) (row (codes "c") (term 0 huge ∷ term 1 one_value ∷ []) Less one_value ∷ [])

-- A row's point is compared before its direction is formed.
very_steep_checked :
    (answer very_steep (outcome 5 None) (Ray (one_value ∷ zero_value ∷ []) (huge ∷ zero_value ∷ [])) ≡ Invalid (RayRow 1))
    × (answer very_steep (outcome 5 None) (Ray (zero_value ∷ zero_value ∷ []) (huge ∷ zero_value ∷ [])) ≡ TooWide record { op = Mul; left = huge; right = huge })
    × (answer very_steep (outcome 5 None) (Ray (zero_value ∷ zero_value ∷ []) (one_value ∷ zero_value ∷ [])) ≡ Invalid (RayRow 1))
    × (answer very_steep (outcome 5 None) (Ray (zero_value ∷ zero_value ∷ []) (zero_value ∷ minus one_value ∷ [])) ≡ Invalid (RayBound 2))
    × (answer very_steep (outcome 5 None) (Ray (zero_value ∷ zero_value ∷ []) (zero_value ∷ zero_value ∷ [])) ≡ Invalid RayGain)
    × (answer very_steep (outcome 5 None) (Ray (zero_value ∷ []) (zero_value ∷ zero_value ∷ [])) ≡ Invalid Shape)
    × (answer (rising Integer) (outcome 5 None) (Ray (zero_value ∷ []) (one_value ∷ [])) ≡ Invalid Shape)
    × (answer (rising Continuous) (outcome 5 None) (Ray (zero_value ∷ []) (one_value ∷ [])) ≡ Valid)
unfolding answer very_steep
very_steep_checked = (refl, refl, refl, refl, refl, refl, refl, refl)
