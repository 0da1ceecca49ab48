-- The looks of a leaf, taken apart, and what a check by operations that fit says of them.
use Rattle.std.proofs.Common.{◌≡◌, refl, sym, ◌∙◌, ap, subst, ⊎_elim, ℕ, ◌<◌, ℤ, IsTrue, List, [], ◌∷◌, ◌++◌, All, Result, Ok, Err, arith}
use Rattle.std.proofs.lemmas.Bool.{cases_Bool}
use Rattle.std.proofs.lemmas.List.Elements.{All-cons, All-head, All-nil}
use Rattle.frac128.specs.Fraction.{Fraction, den, negation, zero_value}
use Rattle.frac128.specs.Order.{IsAtMost}
use Rattle.frac128.specs.declared.operations.Wide.{Wide}
use Rattle.frac128.proofs.Field.{negation-negation}
use Rattle.frac128.proofs.Ordered.{IsAtMost-negation, IsAtMost_trans, IsBelow-lowest, IsBelow-not}
use Rattle.model_data.specs.Lawful.{IsLawful}
use Rattle.model_data.specs.declared.model.Direction.{Direction}
use Rattle.model_data.specs.declared.model.Direction.TheVariants.{Minimize, Maximize}
use Rattle.model_data.specs.declared.model.Model.{Model}
use Rattle.model_data.specs.declared.solution.Weights.{Weights}
use Rattle.solve_defs.specs.Bounds.{effective_bounds}
use Rattle.solve_defs.specs.Certificates.{Claim, bound_claim, farkas_claim, leaf_looks, side_steps, sign_looks, sums_from}
use Rattle.solve_defs.specs.LeafWeights.{Combines, IsNoBetterThanSide}
use Rattle.solve_defs.specs.Looks.{Holds, Look, Step, after_look, checked_step, formed, minus, minus_times, moved, plus, plus_times, total_of, verdict_of}
use Rattle.solve_defs.specs.Points.{HasNoPoint, IsBetter, IsFeasible, Ratio, objective_value, ratio, relaxation}
use Rattle.solve_defs.specs.Values.{turned}
use Rattle.solve_defs.specs.declared.cut.Cut.{Cut}
use Rattle.solve_defs.specs.declared.verdict.Place.TheVariants.{LeafSide}
use Rattle.solve_defs.specs.declared.verdict.Verdict.{Verdict}
use Rattle.solve_defs.specs.declared.verdict.Verdict.TheVariants.{Valid, Invalid}
use Rattle.solve_defs.proofs.LeafBounds.{All-left, All-right, no_point, objective_den, side_bounds}
use Rattle.solve_defs.proofs.PointValues.{at_most-low, at_most_holds, below_holds, below_low, low, low_below}
use Rattle.frac128.proofs.Chains.{difference_is, less_product_is, plus_product_is, same_ok, sum_is, through}

-- ---- a leaf

pub record LeafParts (m : Model) (cuts : List Cut) (leaf : ℕ) (claim : Claim) (weights : Weights) : Type 0 where
  pub combines : Combines m cuts leaf weights claim.coefs
  pub side : IsTrue (claim.holds (total_of claim.constant (side_steps m (effective_bounds m cuts) weights)))

pub leaf_parts : (m : Model) (cuts : List Cut) (leaf : ℕ) (claim : Claim) (weights : Weights) → All Holds (leaf_looks m cuts leaf claim weights) → LeafParts m cuts leaf claim weights
leaf_parts m cuts leaf claim weights hold =
    let bounds = effective_bounds m cuts in
    let signs = sign_looks m bounds leaf weights in
    let sums = sums_from m leaf weights 0 claim.coefs in
    let last : Look = record { place = LeafSide leaf; start = claim.constant; steps = side_steps m bounds weights; holds = claim.holds } in
    let front = All-left Holds (signs ++ sums) (last ∷ []) hold in
    record {
      combines = record { signs = All-left Holds signs sums front; sums = All-right Holds signs sums front };
      side = All-head Holds last [] (All-right Holds (signs ++ sums) (last ∷ []) hold);
    }

-- a value that is no better than a side, and the side no better than another value
no_better : (direction : Direction) (value : Ratio) (side limit : Fraction) → 0 < value.den → IsNoBetterThanSide direction value side → IsAtMost side (turned direction limit)
    → IsBetter direction value (ratio limit) → ⊥
no_better Maximize value side limit some bound h better =
    IsBelow-not (low (ratio limit)) (low value) (IsBelow-lowest limit.num value.num (den limit) value.den (omega arith) some better)
    (IsAtMost_trans (low value) side (low (ratio limit))
    (IsAtMost_trans (low value) (low (ratio side)) side (at_most-low value (ratio side) some (omega arith) bound) (low_below side))
    (IsAtMost_trans side limit (low (ratio limit)) h (below_low limit)))
no_better Minimize value side limit some bound h better =
    IsBelow-not (low value) (low (ratio limit)) (IsBelow-lowest value.num limit.num value.den (den limit) some (omega arith) better)
    (IsAtMost_trans (low (ratio limit)) (negation side) (low value)
    (IsAtMost_trans (low (ratio limit)) limit (negation side) (low_below limit) (subst (λ x. IsAtMost x (negation side)) (negation-negation limit) (IsAtMost-negation side (negation limit) h)))
    (IsAtMost_trans (negation side) (low (ratio (negation side))) (low value) (below_low (negation side)) (at_most-low (ratio (negation side)) value (omega arith) some bound)))

-- No point of a leaf that holds is better than the value.
pub bound_holds : (m : Model) (cuts : List Cut) (leaf : ℕ) (weights : Weights) (value : Fraction) (X : List ℤ) (d : ℕ) → IsLawful m → All Holds (leaf_looks m cuts leaf (bound_claim m value) weights)
    → IsFeasible (relaxation m cuts) X d → IsBetter m.direction (objective_value m X d) (ratio value) → ⊥
bound_holds m cuts leaf weights value X d lawful hold feasible =
    let parts = leaf_parts m cuts leaf (bound_claim m value) weights hold in
    let side = total_of (turned m.direction m.constant) (side_steps m (effective_bounds m cuts) weights) in
    no_better m.direction (objective_value m X d) side value (objective_den m X d feasible.above_zero)
    (side_bounds m cuts leaf weights X d lawful parts.combines feasible)
    (at_most_holds side (turned m.direction value) parts.side)

pub farkas_holds : (m : Model) (cuts : List Cut) (leaf : ℕ) (weights : Weights) → IsLawful m → All Holds (leaf_looks m cuts leaf (farkas_claim m) weights) → HasNoPoint (relaxation m cuts)
farkas_holds m cuts leaf weights lawful hold =
    let parts = leaf_parts m cuts leaf (farkas_claim m) weights hold in
    no_point m cuts leaf weights lawful parts.combines (below_holds (total_of zero_value (side_steps m (effective_bounds m cuts) weights)) zero_value parts.side)

-- ---- by operations that fit

step_is : (total : Fraction) (step : Step) (next : Fraction) → checked_step total step ≡ Ok next → next ≡ moved total step
step_is total (plus x) next h = sum_is total x next h
step_is total (minus x) next h = difference_is total x next h
step_is total (plus_times x y) next h = plus_product_is x total y next h
step_is total (minus_times x y) next h = less_product_is x total y next h

-- A sum that is formed is the exact one.
pub formed_is : (start : Fraction) (steps : List Step) (sum : Fraction) → formed start steps ≡ Ok sum → sum ≡ total_of start steps
formed_is start [] sum h = sym (same_ok start sum h)
formed_is start (step ∷ steps) sum h =
    let t = through (checked_step start step) (λ next. formed next steps) sum h in
    formed_is t.value steps sum t.rest ∙ ap (λ s. total_of s steps) (step_is start step t.value t.first)

-- a look that holds, and what goes on behind it
record Passed (look : Look) (later : Verdict) : Type 0 where
  first : Holds look
  rest : later ≡ Valid

tested : (look : Look) (later : Verdict) (sum : Fraction) → sum ≡ total_of look.start look.steps → after_look look (Ok sum) later ≡ Valid → Passed look later
tested look later sum is h =
    ⊎_elim
    (λ shown. record { first = ap look.holds (sym is) ∙ shown; rest = rw shown at h })
    (λ shown. absurd (refused (rw shown at h)))
    (cases_Bool (look.holds sum))
  where
    refused : Invalid look.place ≡ Valid → ⊥
    refused e = absurd (cc)

passed : (look : Look) (later : Verdict) (r : Result Fraction Wide) → r ≡ formed look.start look.steps → after_look look r later ≡ Valid → Passed look later
passed look later (Err wide) same h = absurd (cc)
passed look later (Ok sum) same h = tested look later sum (formed_is look.start look.steps sum (sym same)) h

-- Where a check finds nothing, each look holds.
pub valid_holds : (looks : List Look) → verdict_of looks ≡ Valid → All Holds looks
valid_holds [] h = All-nil Holds
valid_holds (look ∷ looks) h =
    let t = passed look (verdict_of looks) (formed look.start look.steps) refl h in
    All-cons Holds look looks t.first (valid_holds looks t.rest)
