-- The bounds of each cut of a search fit.
use Rattle.std.proofs.Common.{◌≡◌, refl, sym, subst, ℕ, zero, suc, ◌<◌, ℤ, unsigned_abs, List, [], ◌∷◌, ◌++◌, All, Option, Some, None, Result, Ok, Err, arith, nat_lt}
use Rattle.std.specs.Prelude.{IfSome, nat_le, ◌+◌}
use Rattle.std.proofs.Math.Nat.{one-dvd}
use Rattle.std.proofs.lemmas.Bool.{cond_both, ltb-true}
use Rattle.std.proofs.lemmas.List.Elements.{All-append, All-cons, All-head, All-nil, All-tail}
use Rattle.frac128.specs.Checked.{checked_sum}
use Rattle.frac128.specs.Fits.{sum_fits}
use Rattle.frac128.specs.Fraction.{Fraction, exact_sum, one_value}
use Rattle.frac128.specs.Lowest.{IsKept}
use Rattle.frac128.specs.Numbers.{limit}
use Rattle.frac128.specs.declared.operations.Op.TheVariants.{Add}
use Rattle.frac128.specs.declared.operations.Wide.{Wide}
use Rattle.frac128.proofs.Chains.{sum_is}
use Rattle.frac128.proofs.Kept.{IsKept-one, IsKept-sum}
use Rattle.model_data.specs.declared.model.Model.{Model}
use Rattle.model_data.specs.declared.params.Params.{Params}
use Rattle.model_data.specs.declared.solution.CertNode.TheVariants.{Bound, Farkas, Split}
use Rattle.model_data.specs.declared.solution.Point.{Point}
use Rattle.model_data.specs.declared.solution.SolEvent.{SolEvent}
use Rattle.model_data.specs.declared.solution.Weights.{Weights}
use Rattle.dictionary.specs.Dictionary.{Dictionary}
use Rattle.dictionary.specs.declared.standard.Std.{Std}
use Rattle.solve_defs.specs.Bounds.{at_least_cut, at_most_cut}
use Rattle.solve_defs.specs.KeptCuts.{IsKeptCut}
use Rattle.solve_defs.specs.Kinds.{are_continuous}
use Rattle.solve_defs.specs.Path.{Coming, Entering, a_pivot, an_end, coming, entry_count, next}
use Rattle.solve_defs.specs.Plain.{Node, Placed, Progress, Search, Turn, at_fractional, at_point, begun, begun_with, both_back, bound_turn, going, improves, node_turn, over, pivot_turn, pivoted_to, pointless_turn, ray_turn, rooted, run, silent, split_turn, start, stopped, turn, turn_at, turn_on, with_finished}
use Rattle.solve_defs.specs.StandardForm.{standard_form}
use Rattle.solve_defs.specs.Values.{floor_of, whole}
use Rattle.solve_defs.specs.declared.cut.Cut.{Cut}
use Rattle.solve_defs.specs.declared.solving.LpEnd.TheVariants.{Best, NoPoint, Unbounded}
use Rattle.solve_defs.specs.declared.status.TheConstants.{ITERATION_LIMIT, NODE_LIMIT, WORK_LIMIT}
use Rattle.search_laws.specs.Searches.{HasKeptCuts}
use Rattle.search_laws.proofs.Runs.{run-going, run-none, run-over}
use Rattle.search_laws.proofs.Splits.{fitted, number_fits}

-- ---- the two bounds of a split

whole_kept : (k : ℤ) → unsigned_abs k < limit → IsKept (whole k)
whole_kept k fits = record { nothing_in_common = (one-dvd _, one-dvd 1, λ j p q. q); num_fits = fits; den_fits = omega arith }

lower_kept : (k : ℤ) (next : Fraction) → checked_sum (whole k) one_value ≡ Ok next → IsKept (whole k)
lower_kept k next sum = whole_kept k (ltb-true (unsigned_abs k) limit (number_fits k next sum))

upper_kept : (k : ℤ) (next : Fraction) → checked_sum (whole k) one_value ≡ Ok next → IsKept (whole next.num)
upper_kept k next sum =
    let fits = fitted (sum_fits (whole k) one_value) (exact_sum (whole k) one_value) Add (whole k) one_value next sum in
    let kept = subst IsKept (sym (sum_is (whole k) one_value next sum)) (IsKept-sum (whole k) one_value (lower_kept k next sum) IsKept-one fits) in
    whole_kept next.num kept.num_fits

with_cut : (cuts : List Cut) (cut : Cut) → All IsKeptCut cuts → IsKeptCut cut → All IsKeptCut (cuts ++ cut ∷ [])
with_cut cuts cut all own = All-append IsKeptCut cuts (cut ∷ []) all (All-cons IsKeptCut cut [] own (All-nil IsKeptCut))

-- ---- a turn

abbrev Keeps : Progress → Type 0
Keeps (going s) = HasKeptCuts s
Keeps (over o cert) = Unit {0}

begun_keeps : (m : Model) (p : Params) (s : Search) (waiting : List (List Cut)) → All (All IsKeptCut) waiting → Keeps (begun m p s waiting)
begun_keeps m p s [] kept = tt
begun_keeps m p s (cuts ∷ later) kept =
    cond_both (nat_le p.nodes s.nodes) (stopped NODE_LIMIT s) (begun_with s cuts later (standard_form m cuts)) Keeps (λ _. tt) (λ _. begins (standard_form m cuts))
  where
    begins : (form : Result Std Wide) → Keeps (begun_with s cuts later form)
    begins (Ok form) = record { node = All-head (All IsKeptCut) cuts later kept; waiting = All-tail (All IsKeptCut) cuts later kept }
    begins (Err wide) = tt

-- a node under way, with the nodes that are to begin
pub record AreKept (s : Search) (node : Node) : Type 0 where
  pub own : All IsKeptCut node.cuts
  pub waiting : All (All IsKeptCut) s.waiting

pivot_keeps : (p : Params) (s : Search) (node : Node) (entering : Entering) → AreKept s node → Keeps (pivot_turn p s node entering).progress
pivot_keeps p s node entering kept =
    cond_both {A = Turn} (nat_le p.iterations s.pivots) (silent (stopped ITERATION_LIMIT s)) _ (λ t. Keeps t.progress) (λ _. tt)
    (λ _. cond_both {A = Turn} (nat_lt p.work (s.work + entry_count node.dictionary)) (silent (stopped WORK_LIMIT s)) _ (λ t. Keeps t.progress) (λ _. tt)
    (λ _. by_result (next entering node.dictionary)))
  where
    by_result : (r : Result Dictionary Wide) → Keeps (pivoted_to s node r).progress
    by_result (Err wide) = tt
    by_result (Ok after) = record { node = kept.own; waiting = kept.waiting }

closed_keeps : (m : Model) (p : Params) (s : Search) (node : Node) (weights : Result Weights Wide) → AreKept s node → Keeps (pointless_turn m p s weights).progress
closed_keeps m p s node (Err wide) kept = tt
closed_keeps m p s node (Ok weights) kept = begun_keeps m p (with_finished s (Farkas weights) []) s.waiting kept.waiting

bound_keeps : (m : Model) (p : Params) (s : Search) (node : Node) (sol : Option SolEvent) (weights : Result Weights Wide) → AreKept s node → Keeps (bound_turn m p s sol weights).progress
bound_keeps m p s node sol (Err wide) kept = tt
bound_keeps m p s node sol (Ok weights) kept = begun_keeps m p (with_finished s (Bound weights) []) s.waiting kept.waiting

split_keeps : (m : Model) (p : Params) (s : Search) (node : Node) (place : ℕ) (k : ℤ) (sum : Result Fraction Wide) → checked_sum (whole k) one_value ≡ sum → AreKept s node
    → Keeps (split_turn m p s node place k sum).progress
split_keeps m p s node place k (Err wide) is kept = tt
split_keeps m p s node place k (Ok next) is kept =
    let low = node.cuts ++ at_most_cut place k ∷ [] in
    let high = node.cuts ++ at_least_cut place next.num ∷ [] in
    begun_keeps m p (with_finished s (Split (suc place) k) (low ∷ high ∷ [])) (low ∷ high ∷ s.waiting)
    (All-cons (All IsKeptCut) low (high ∷ s.waiting) (with_cut node.cuts (at_most_cut place k) kept.own record { lower = tt; upper = lower_kept k next is })
    (All-cons (All IsKeptCut) high s.waiting (with_cut node.cuts (at_least_cut place next.num) kept.own record { lower = upper_kept k next is; upper = tt }) kept.waiting))

fractional_keeps : (m : Model) (p : Params) (s : Search) (node : Node) (point : Point) (v : Option Placed) → AreKept s node → Keeps (at_fractional m p s node point v).progress
fractional_keeps m p s node point None kept = bound_keeps m p (record s { incumbent = Some point }) node _ _ record { own = kept.own; waiting = kept.waiting }
fractional_keeps m p s node point (Some v) kept = split_keeps m p s node v.place (floor_of v.value) (checked_sum (whole (floor_of v.value)) one_value) refl kept

point_keeps : (m : Model) (p : Params) (s : Search) (node : Node) (value : Fraction) (xs : Result (List Fraction) Wide) → AreKept s node → Keeps (at_point m p s node value xs).progress
point_keeps m p s node value (Err wide) kept = tt
point_keeps m p s node value (Ok xs) kept = fractional_keeps m p s node _ _ kept

ray_keeps : (s : Search) (both : Result (List Fraction × List Fraction) Wide) → Keeps (ray_turn s both).progress
ray_keeps s (Err wide) = tt
ray_keeps s (Ok both) = tt

node_keeps : (m : Model) (p : Params) (s : Search) (node : Node) (c : Coming) → AreKept s node → Keeps (node_turn m p s node c).progress
node_keeps m p s node (a_pivot entering) kept = pivot_keeps p s node entering kept
node_keeps m p s node (an_end Best) kept =
    cond_both {A = Turn} (improves m _ s.incumbent) _ _ (λ t. Keeps t.progress) (λ _. point_keeps m p s node _ _ kept) (λ _. bound_keeps m p s node None _ kept)
node_keeps m p s node (an_end NoPoint) kept = closed_keeps m p s node _ kept
node_keeps m p s node (an_end Unbounded) kept = cond_both {A = Turn} (are_continuous m.vars) _ _ (λ t. Keeps t.progress) (λ _. ray_keeps s (both_back m node)) (λ _. tt)

at_keeps : (m : Model) (p : Params) (s : Search) (node : Option Node) → s.node ≡ node → HasKeptCuts s → Keeps (turn_at m p s node).progress
at_keeps m p s None is kept = kept
at_keeps m p s (Some node) is kept = node_keeps m p s node (coming node.dictionary) record { own = subst (λ o. IfSome o (λ n. All IsKeptCut n.cuts)) is kept.node; waiting = kept.waiting }

on_keeps : (m : Model) (p : Params) (at : Progress) → Keeps at → Keeps (turn_on m p at).progress
on_keeps m p (going s) kept = at_keeps m p s s.node refl kept
on_keeps m p (over o cert) kept = tt

turn_keeps : (m : Model) (p : Params) (s : Search) → HasKeptCuts s → Keeps (turn m p s).progress
unfolding turn
turn_keeps m p s kept = on_keeps m p (rooted m p s s.node) (by_node s.node)
  where
    by_node : (node : Option Node) → Keeps (rooted m p s node)
    by_node None = begun_keeps m p s s.waiting kept.waiting
    by_node (Some node) = kept

-- ---- a run

run_keeps : (m : Model) (p : Params) (k : ℕ) (at : Progress) → Keeps at → Keeps (run m p k at).progress
run_keeps m p k (over o cert) kept = subst (λ r. Keeps r.progress) (sym (run-over m p k o cert)) tt
run_keeps m p zero (going s) kept = subst (λ r. Keeps r.progress) (sym (run-none m p (going s))) kept
run_keeps m p (suc k) (going s) kept = subst (λ r. Keeps r.progress) (sym (run-going m p k s)) (run_keeps m p k (turn m p s).progress (turn_keeps m p s kept))

pub cuts_kept : (m : Model) (p : Params) (k : ℕ) (s : Search) → (run m p k (going start)).progress ≡ going s → HasKeptCuts s
cuts_kept m p k s is =
    subst Keeps is (run_keeps m p k (going start) record { node = tt; waiting = All-cons (All IsKeptCut) [] [] (All-nil IsKeptCut) (All-nil (All IsKeptCut)) })
