-- Each kind of turn keeps what holds of a search, and each end is right.
use Rattle.std.proofs.Common.{◌≡◌, refl, sym, ◌∙◌, ap, subst, ℕ, zero, suc, ◌+◌, ℤ, true, false, true≢false, IsTrue, List, [], ◌∷◌, ◌++◌, Option, Some, None, IfSome, Result, Ok, Err}
use Rattle.std.specs.Prelude.{nat_le, nat_lt}
use Rattle.std.proofs.lemmas.Bool.{cond_both}
use Rattle.std.proofs.lemmas.List.Elements.{All-nil}
use Rattle.frac128.specs.Checked.{checked_sum, ◌>>=◌}
use Rattle.frac128.specs.Fraction.{Fraction, one_value}
use Rattle.frac128.specs.Order.{IsAtMost}
use Rattle.frac128.specs.declared.operations.Wide.{Wide}
use Rattle.frac128.proofs.Ordered.{IsAtMost-self, IsAtMost_trans}
use Rattle.model_data.specs.declared.model.Model.{Model}
use Rattle.model_data.specs.declared.params.Params.{Params}
use Rattle.model_data.specs.declared.solution.Cert.TheVariants.{Nothing, Ray}
use Rattle.model_data.specs.declared.solution.CertNode.TheVariants.{Split, Bound, Farkas}
use Rattle.model_data.specs.declared.solution.Point.{Point}
use Rattle.model_data.specs.declared.solution.SolEvent.{SolEvent}
use Rattle.model_data.specs.declared.solution.WideAt.{WideAt}
use Rattle.model_data.specs.declared.solution.Weights.{Weights}
use Rattle.dictionary.specs.Dictionary.{Dictionary, entry}
use Rattle.dictionary.specs.declared.standard.Std.{Std}
use Rattle.solve_defs.specs.Certificates.{under, value_of}
use Rattle.solve_defs.specs.Ends.{dual_of, farkas_of, point_of, ray_of}
use Rattle.solve_defs.specs.Looks.{Holds}
use Rattle.solve_defs.specs.Kinds.{are_continuous}
use Rattle.solve_defs.specs.Path.{Coming, Entering, a_pivot, an_end, coming, entry_count, further, here, next}
use Rattle.solve_defs.specs.Plain.{Node, Placed, Progress, Search, Turn, at_fractional, at_point, begun, begun_with, best_turn, both_back, bound_turn, cut_off, plain_cut, run, bound_weights, farkas_weights, first_fractional, going, improves, node_turn, outcome, over, pivot_turn, pivoted_to, pointless_turn, ray_turn, rooted, silent, split_turn, start, stopped, turn, turn_at, turn_on, unbounded_turn, with_finished}
use Rattle.solve_defs.specs.Points.{IsBestPoint, IsFeasiblePoint, relaxation}
use Rattle.solve_defs.specs.StandardForm.{point_back, ray_back, shapes_of, standard_form}
use Rattle.solve_defs.specs.Values.{floor_of, turned, whole}
use Rattle.solve_defs.specs.declared.cut.Cut.{Cut}
use Rattle.solve_defs.specs.declared.solving.LpEnd.TheVariants.{Best, NoPoint, Unbounded}
use Rattle.solve_defs.specs.declared.status.TheConstants.{INF_OR_UNBD, INTERRUPTED, ITERATION_LIMIT, NODE_LIMIT, NUMERIC, UNBOUNDED, WORK_LIMIT}
use Rattle.frac128.proofs.Chains.{same_ok, through}
use Rattle.solve_defs.specs.Relaxations.{IsReached, RelaxationLaw}
use Rattle.search_laws.specs.Searches.{IsKept, IsNoWorse, IsRight, IsTreeTo, Stands, with_own}
use Rattle.search_laws.specs.Turns.{KeepsOrEnds}
use Rattle.search_laws.proofs.Grown.{with_bound, with_farkas, with_split}
use Rattle.search_laws.proofs.KeptHere.{kept_here}
use Rattle.search_laws.proofs.Looser.{unbounded_root}
use Rattle.search_laws.proofs.LeavesHold.{bound_holds, emptied_holds}
use Rattle.search_laws.proofs.Orders.{improved, no_better_most, no_worse_value, turned_twice}
use Rattle.search_laws.proofs.RightEnds.{finished_right, open_right, ray_right, stopped_right}
use Rattle.search_laws.proofs.Roots.{no_cuts}
use Rattle.search_laws.proofs.Runs.{run-going, run-none, run-over}
use Rattle.search_laws.proofs.Splits.{next_is, split_fits}
use Rattle.search_laws.proofs.Weighed.{length-point, length-ray, weights_fit}
use Rattle.solve_defs.specs.Bounds.{at_least_cut, at_most_cut}

-- what a turn has to keep
abbrev pub Leads : Model → Progress → Type 0
Leads m = KeepsOrEnds (Stands m) (IsRight m)

-- ---- ends

no_status : (status : ℕ) → IsTrue (nat_lt INF_OR_UNBD status) → status ≡ INF_OR_UNBD → ⊥
no_status status more e = true≢false (sym more ∙ ap (λ s. nat_lt INF_OR_UNBD s) e)

refused_right : (m : Model) (s : Search) (wide : Option WideAt) → IfSome s.incumbent (IsKept m) → IsRight m (outcome NUMERIC s s.incumbent wide) Nothing
refused_right m s wide kept = stopped_right m NUMERIC s wide kept refl (no_status NUMERIC refl)

-- ---- the next node

begins : (m : Model) (s : Search) (cuts : List Cut) (later : List (List Cut)) (form : Result Std Wide) → standard_form m cuts ≡ form → IsTreeTo m s.incumbent s.tree (cuts ∷ later)
    → Leads m (begun_with s cuts later form)
begins m s cuts later (Ok form) is t = record { tree = t; node = record { form = form; is_form = is; pivots = zero; path = here } }
begins m s cuts later (Err wide) is t = refused_right m s _ t.kept

pub begun_leads : (m : Model) (p : Params) (s : Search) (waiting : List (List Cut)) → IsTreeTo m s.incumbent s.tree waiting → Leads m (begun m p s waiting)
begun_leads m p s [] t = finished_right m s t
begun_leads m p s (cuts ∷ later) t =
    cond_both (nat_le p.nodes s.nodes) (stopped NODE_LIMIT s) (begun_with s cuts later (standard_form m cuts)) (Leads m)
    (λ _. stopped_right m NODE_LIMIT s None t.kept refl (no_status NODE_LIMIT refl))
    (λ _. begins m s cuts later (standard_form m cuts) refl t)

-- ---- a pivot

pivot_leads : (m : Model) (p : Params) (s : Search) (node : Node) (entering : Entering) → IsTreeTo m s.incumbent s.tree (node.cuts ∷ s.waiting) → IsReached m node.cuts node.dictionary
    → coming node.dictionary ≡ a_pivot entering → Leads m (pivot_turn p s node entering).progress
pivot_leads m p s node entering t reached comes =
    cond_both {A = Turn} (nat_le p.iterations s.pivots) (silent (stopped ITERATION_LIMIT s)) _ (λ t. Leads m t.progress)
    (λ _. stopped_right m ITERATION_LIMIT s None t.kept refl (no_status ITERATION_LIMIT refl))
    (λ _. cond_both {A = Turn} (nat_lt p.work (s.work + entry_count node.dictionary)) (silent (stopped WORK_LIMIT s)) _ (λ t. Leads m t.progress)
    (λ _. stopped_right m WORK_LIMIT s None t.kept refl (no_status WORK_LIMIT refl))
    (λ _. by_result (next entering node.dictionary) refl))
  where
    by_result : (r : Result Dictionary Wide) → next entering node.dictionary ≡ r → Leads m (pivoted_to s node r).progress
    by_result (Err wide) is = refused_right m s _ t.kept
    by_result (Ok after) is = record {
      tree = t;
      node = record { form = reached.form; is_form = reached.is_form; pivots = suc reached.pivots; path = further reached.path record { entering = entering; comes = comes; gives = is } };
    }

-- ---- a node without a point

pointless_leads : (m : Model) (p : Params) (s : Search) (node : Node) (weights : Result Weights Wide) → RelaxationLaw m → IsTreeTo m s.incumbent s.tree (node.cuts ∷ s.waiting)
    → IsReached m node.cuts node.dictionary → coming node.dictionary ≡ an_end NoPoint → farkas_weights m node ≡ weights → Leads m (pointless_turn m p s weights).progress
pointless_leads m p s node (Err wide) law t reached comes is = refused_right m s _ t.kept
pointless_leads m p s node (Ok weights) law t reached comes is =
    begun_leads m p (with_finished s (Farkas weights) []) s.waiting
    (with_farkas m s.incumbent s.tree node.cuts s.waiting weights t
    (weights_fit m node.cuts (farkas_of node.dictionary).ys (farkas_of node.dictionary).reduced weights is)
    (λ leaf. emptied_holds m node.cuts leaf weights (law.no_point node.cuts node.dictionary weights reached comes is)))

-- ---- a node that is closed by a value

-- the value that is read
abbrev pub read : Model → Node → Fraction
read m node = turned m.direction (entry node.dictionary.objective 0)

-- The best point is no worse than the value that is read.
bound_leads : (m : Model) (p : Params) (s : Search) (node : Node) (sol : Option SolEvent) (incumbent : Option Point) (best : Point) (weights : Result Weights Wide) → RelaxationLaw m
    → s.incumbent ≡ Some best → IsTreeTo m incumbent s.tree (node.cuts ∷ s.waiting) → IsKept m best → ((last : Option Point) → IsNoWorse m.direction (Some best) last → IsNoWorse m.direction incumbent last)
    → IsAtMost (turned m.direction (read m node)) (turned m.direction best.value)
    → IsReached m node.cuts node.dictionary → coming node.dictionary ≡ an_end Best → bound_weights m node ≡ weights → Leads m (bound_turn m p s sol weights).progress
bound_leads m p s node sol incumbent best (Err wide) law is_best t kept better most reached comes is =
    refused_right m s _ (subst (λ o. IfSome o (IsKept m)) (sym is_best) kept)
bound_leads m p s node sol incumbent best (Ok weights) law is_best t kept better most reached comes is =
    begun_leads m p (with_finished s (Bound weights) []) s.waiting
    (subst (λ o. IsTreeTo m o (s.tree ++ Bound weights ∷ []) s.waiting) (sym is_best)
    (with_bound m incumbent best s.tree node.cuts s.waiting weights t kept better
    (weights_fit m node.cuts (dual_of node.dictionary).ys (dual_of node.dictionary).reduced weights is)
    (λ last leaf no_worse. bound_holds m node.cuts leaf weights (entry node.dictionary.objective 0) (value_of last) (law.bound node.cuts node.dictionary weights reached comes is)
    (IsAtMost_trans (entry node.dictionary.objective 0) (turned m.direction best.value) (turned m.direction (value_of last))
    (subst (λ x. IsAtMost x (turned m.direction best.value)) (turned_twice m.direction (entry node.dictionary.objective 0)) most)
    (no_worse_value m.direction best last no_worse)))))

-- ---- a relaxation at its best point

split_leads : (m : Model) (p : Params) (s : Search) (node : Node) (xs : List Fraction) (at : Placed) (k : ℤ) (sum : Result Fraction Wide) → IsTreeTo m s.incumbent s.tree (node.cuts ∷ s.waiting)
    → first_fractional 0 m.vars xs ≡ Some at → checked_sum (whole k) one_value ≡ sum → Leads m (split_turn m p s node at.place k sum).progress
split_leads m p s node xs at k (Err wide) t is_first is = refused_right m s _ t.kept
split_leads m p s node xs at k (Ok sum) t is_first is =
    let low = node.cuts ++ at_most_cut at.place k ∷ [] in
    let high = node.cuts ++ at_least_cut at.place sum.num ∷ [] in
    begun_leads m p (with_finished s (Split (suc at.place) k) (low ∷ high ∷ [])) (low ∷ high ∷ s.waiting)
    (with_split m s.incumbent s.tree node.cuts s.waiting at.place k sum.num t (split_fits m xs at k sum is_first is) (next_is k sum is))

feasible_of : (m : Model) (p : Point) → IsBestPoint m p → IsFeasiblePoint m p
feasible_of m p best = record { X = best.X; d = best.d; values = best.values; feasible = best.best.feasible; value = best.value }

fractional_leads : (m : Model) (p : Params) (s : Search) (node : Node) (xs : List Fraction) (v : Option Placed) → RelaxationLaw m → IsTreeTo m s.incumbent s.tree (node.cuts ∷ s.waiting)
    → improves m (read m node) s.incumbent ≡ true → point_back (shapes_of m node.cuts) (point_of node.dictionary) ≡ Ok xs → first_fractional 0 m.vars xs ≡ v
    → IsReached m node.cuts node.dictionary → coming node.dictionary ≡ an_end Best → Leads m (at_fractional m p s node (record { xs = xs; value = read m node }) v).progress
fractional_leads m p s node xs None law t better is_point whole reached comes =
    let point : Point = record { xs = xs; value = read m node } in
    bound_leads m p (record s { incumbent = Some point }) node _ s.incumbent point (bound_weights m node) law refl t
    (kept_here m node.cuts point (feasible_of (relaxation m node.cuts) point (law.point node.cuts node.dictionary xs reached comes is_point)) (length-point m node.cuts (point_of node.dictionary) xs is_point) whole)
    (λ last. improved m point s.incumbent better last) (IsAtMost-self (turned m.direction (read m node))) reached comes refl
fractional_leads m p s node xs (Some at) law t better is_point is_first reached comes =
    split_leads m p s node xs at (floor_of at.value) (checked_sum (whole (floor_of at.value)) one_value) t is_first refl

point_leads : (m : Model) (p : Params) (s : Search) (node : Node) (xs : Result (List Fraction) Wide) → RelaxationLaw m → IsTreeTo m s.incumbent s.tree (node.cuts ∷ s.waiting)
    → improves m (read m node) s.incumbent ≡ true → point_back (shapes_of m node.cuts) (point_of node.dictionary) ≡ xs → IsReached m node.cuts node.dictionary → coming node.dictionary ≡ an_end Best
    → Leads m (at_point m p s node (read m node) xs).progress
point_leads m p s node (Err wide) law t better is reached comes = refused_right m s _ t.kept
point_leads m p s node (Ok xs) law t better is reached comes = fractional_leads m p s node xs (first_fractional 0 m.vars xs) law t better is refl reached comes

closed_leads : (m : Model) (p : Params) (s : Search) (node : Node) (incumbent : Option Point) → RelaxationLaw m → s.incumbent ≡ incumbent → IsTreeTo m s.incumbent s.tree (node.cuts ∷ s.waiting)
    → improves m (read m node) incumbent ≡ false → IsReached m node.cuts node.dictionary → coming node.dictionary ≡ an_end Best → Leads m (bound_turn m p s None (bound_weights m node)).progress
closed_leads m p s node None law is t worse reached comes = absurd (true≢false worse)
closed_leads m p s node (Some best) law is t worse reached comes =
    bound_leads m p s node None (Some best) best (bound_weights m node) law is (subst (λ o. IsTreeTo m o s.tree (node.cuts ∷ s.waiting)) is t) (subst (λ o. IfSome o (IsKept m)) is t.kept)
    (λ last h. h) (no_better_most m.direction (read m node) best.value worse) reached comes refl

best_leads : (m : Model) (p : Params) (s : Search) (node : Node) → RelaxationLaw m → IsTreeTo m s.incumbent s.tree (node.cuts ∷ s.waiting) → IsReached m node.cuts node.dictionary
    → coming node.dictionary ≡ an_end Best → Leads m (best_turn m p s node).progress
best_leads m p s node law t reached comes =
    cond_both {A = Turn} (improves m (read m node) s.incumbent) (at_point m p s node (read m node) (point_back (shapes_of m node.cuts) (point_of node.dictionary)))
    (bound_turn m p s None (bound_weights m node)) (λ t. Leads m t.progress)
    (λ better. point_leads m p s node (point_back (shapes_of m node.cuts) (point_of node.dictionary)) law t better refl reached comes)
    (λ worse. closed_leads m p s node s.incumbent law refl t worse reached comes)

-- ---- an unbounded relaxation

ray_leads : (m : Model) (s : Search) (node : Node) (both : Result (List Fraction × List Fraction) Wide) → RelaxationLaw m → IsTreeTo m s.incumbent s.tree (node.cuts ∷ s.waiting)
    → IsReached m node.cuts node.dictionary → coming node.dictionary ≡ an_end Unbounded → are_continuous m.vars ≡ true → both_back m node ≡ both → Leads m (ray_turn s both).progress
ray_leads m s node (Err wide) law t reached comes continuous is = refused_right m s _ t.kept
ray_leads m s node (Ok both) law t reached comes continuous is =
    let shapes = shapes_of m node.cuts in
    let root = no_cuts m s.tree t.later node.cuts s.waiting continuous t.fits t.is_open t.waits in
    let first = through (point_back shapes (ray_of node.dictionary).point) (λ point. ray_back shapes (ray_of node.dictionary).ray >>= (λ ray. Ok (point, ray))) both is in
    let second = through (ray_back shapes (ray_of node.dictionary).ray) (λ ray. Ok (first.value, ray)) both first.rest in
    let same = same_ok (first.value, second.value) both second.rest in
    subst (λ b. IsRight m (outcome UNBOUNDED (record s { nodes = suc s.nodes }) None None) (Ray b.0 b.1)) same
    (ray_right m (record s { nodes = suc s.nodes }) first.value second.value continuous
    (length-point m node.cuts (ray_of node.dictionary).point first.value first.first) (length-ray m node.cuts (ray_of node.dictionary).ray second.value second.first)
    (law.ray node.dictionary first.value second.value (subst (λ c. IsReached m c node.dictionary) root reached) comes
    (subst (λ c. point_back (shapes_of m c) (ray_of node.dictionary).point ≡ Ok first.value) root first.first)
    (subst (λ c. ray_back (shapes_of m c) (ray_of node.dictionary).ray ≡ Ok second.value) root second.first)))

unbounded_leads : (m : Model) (s : Search) (node : Node) → RelaxationLaw m → IsTreeTo m s.incumbent s.tree (node.cuts ∷ s.waiting) → IsReached m node.cuts node.dictionary
    → coming node.dictionary ≡ an_end Unbounded → Leads m (unbounded_turn m s node).progress
unbounded_leads m s node law t reached comes =
    cond_both {A = Turn} (are_continuous m.vars) (ray_turn s (both_back m node)) _ (λ t. Leads m t.progress)
    (λ continuous. ray_leads m s node (both_back m node) law t reached comes continuous refl)
    (λ other. open_right m (record s { nodes = suc s.nodes }) other (unbounded_root m node.cuts (law.unbounded node.cuts node.dictionary reached comes)))

-- ---- a turn

node_leads : (m : Model) (p : Params) (s : Search) (node : Node) (c : Coming) → RelaxationLaw m → IsTreeTo m s.incumbent s.tree (node.cuts ∷ s.waiting) → IsReached m node.cuts node.dictionary
    → coming node.dictionary ≡ c → Leads m (node_turn m p s node c).progress
node_leads m p s node (a_pivot entering) law t reached comes = pivot_leads m p s node entering t reached comes
node_leads m p s node (an_end Best) law t reached comes = best_leads m p s node law t reached comes
node_leads m p s node (an_end NoPoint) law t reached comes = pointless_leads m p s node (farkas_weights m node) law t reached comes refl
node_leads m p s node (an_end Unbounded) law t reached comes = unbounded_leads m s node law t reached comes

at_leads : (m : Model) (p : Params) (s : Search) (node : Option Node) → RelaxationLaw m → s.node ≡ node → Stands m s → Leads m (turn_at m p s node).progress
at_leads m p s None law is stands = stands
at_leads m p s (Some node) law is stands =
    node_leads m p s node (coming node.dictionary) law (subst (λ o. IsTreeTo m s.incumbent s.tree (with_own o s.waiting)) is stands.tree)
    (subst (λ o. IfSome o (λ n. IsReached m n.cuts n.dictionary)) is stands.node) refl

on_leads : (m : Model) (p : Params) (at : Progress) → RelaxationLaw m → Leads m at → Leads m (turn_on m p at).progress
on_leads m p (going s) law stands = at_leads m p s s.node law refl stands
on_leads m p (over o cert) law right = right

rooted_leads : (m : Model) (p : Params) (s : Search) (node : Option Node) → s.node ≡ node → Stands m s → Leads m (rooted m p s node)
rooted_leads m p s None is stands = begun_leads m p s s.waiting (subst (λ o. IsTreeTo m s.incumbent s.tree (with_own o s.waiting)) is stands.tree)
rooted_leads m p s (Some node) is stands = stands

-- A turn keeps what holds of a search, and where it ends the search the end is right.
pub turn_leads : (m : Model) (p : Params) (s : Search) → RelaxationLaw m → Stands m s → Leads m (turn m p s).progress
unfolding turn
turn_leads m p s law stands = on_leads m p (rooted m p s s.node) law (rooted_leads m p s s.node refl stands)

pub start_stands : (m : Model) → Stands m start
start_stands m = record {
  tree = record { later = under [] ∷ []; is_open = refl; waits = refl; fits = refl; holds = λ last _. All-nil Holds; no_bounds = λ _. refl; kept = tt };
  node = tt;
}

-- ---- a solve

pub run_leads : (m : Model) (p : Params) (k : ℕ) (at : Progress) → RelaxationLaw m → Leads m at → Leads m (run m p k at).progress
run_leads m p k (over o cert) law right = subst (λ r. Leads m r.progress) (sym (run-over m p k o cert)) right
run_leads m p zero (going s) law stands = subst (λ r. Leads m r.progress) (sym (run-none m p (going s))) stands
run_leads m p (suc k) (going s) law stands = subst (λ r. Leads m r.progress) (sym (run-going m p k s)) (run_leads m p k (turn m p s).progress law (turn_leads m p s law stands))

-- A solve that is cut is right too.
cut_right : (m : Model) (at : Progress) → Leads m at → IsRight m (cut_off at).outcome (cut_off at).cert
cut_right m (going s) stands = stopped_right m INTERRUPTED s None stands.tree.kept refl (no_status INTERRUPTED refl)
cut_right m (over o cert) right = right

pub plain_cut_right : (m : Model) (p : Params) (k : ℕ) → RelaxationLaw m → IsRight m (plain_cut m p k).outcome (plain_cut m p k).cert
plain_cut_right m p k law = cut_right m (run m p k (going start)).progress (run_leads m p k (going start) law (start_stands m))
