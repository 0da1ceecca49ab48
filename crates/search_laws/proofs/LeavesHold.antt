-- The looks of a leaf hold where its weights prove it.
use Rattle.std.proofs.Common.{ℕ, IsTrue, List, [], ◌∷◌, ◌++◌, All}
use Rattle.std.proofs.lemmas.List.Elements.{All-append, All-cons, All-nil}
use Rattle.frac128.specs.Fraction.{Fraction, zero_value}
use Rattle.frac128.specs.Order.{IsAtMost}
use Rattle.frac128.proofs.Ordered.{IsAtMost_trans}
use Rattle.model_data.specs.declared.model.Model.{Model}
use Rattle.model_data.specs.declared.solution.Weights.{Weights}
use Rattle.solve_defs.specs.Bounds.{effective_bounds}
use Rattle.solve_defs.specs.Certificates.{Claim, bound_claim, farkas_claim, leaf_looks, side_steps, sign_looks, sums_from}
use Rattle.solve_defs.specs.LeafWeights.{Combines, side_on}
use Rattle.solve_defs.specs.Looks.{Holds, Look}
use Rattle.solve_defs.specs.Values.{turned}
use Rattle.solve_defs.specs.declared.cut.Cut.{Cut}
use Rattle.solve_defs.specs.declared.verdict.Place.TheVariants.{LeafSide}
use Rattle.solve_defs.proofs.PointValues.{at_most_shown, below_shown}
use Rattle.solve_defs.specs.Relaxations.{BoundBy, Emptied}

leaf_holds : (m : Model) (cuts : List Cut) (leaf : ℕ) (claim : Claim) (weights : Weights) → Combines m cuts leaf weights claim.coefs → IsTrue (claim.holds (side_on claim.constant m cuts weights))
    → All Holds (leaf_looks m cuts leaf claim weights)
leaf_holds m cuts leaf claim weights combines side =
    let bounds = effective_bounds m cuts in
    let signs = sign_looks m bounds leaf weights in
    let sums = sums_from m leaf weights 0 claim.coefs in
    let last : Look = record { place = LeafSide leaf; start = claim.constant; steps = side_steps m bounds weights; holds = claim.holds } in
    All-append Holds (signs ++ sums) (last ∷ []) (All-append Holds signs sums combines.signs combines.sums) (All-cons Holds last [] side (All-nil Holds))

-- a value that is known, where it is no worse than the bound
pub bound_holds : (m : Model) (cuts : List Cut) (leaf : ℕ) (weights : Weights) (value known : Fraction) → BoundBy m cuts weights value → IsAtMost value (turned m.direction known)
    → All Holds (leaf_looks m cuts leaf (bound_claim m known) weights)
bound_holds m cuts leaf weights value known bound most =
    let side = side_on (turned m.direction m.constant) m cuts weights in
    leaf_holds m cuts leaf (bound_claim m known) weights (bound.combines leaf)
    (at_most_shown side (turned m.direction known) (IsAtMost_trans side value (turned m.direction known) bound.side most))

pub emptied_holds : (m : Model) (cuts : List Cut) (leaf : ℕ) (weights : Weights) → Emptied m cuts weights → All Holds (leaf_looks m cuts leaf (farkas_claim m) weights)
emptied_holds m cuts leaf weights emptied =
    leaf_holds m cuts leaf (farkas_claim m) weights (emptied.combines leaf) (below_shown (side_on zero_value m cuts weights) zero_value emptied.side)
