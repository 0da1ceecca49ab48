-- A search has no more nodes than the numbers of its cuts allow.
use Rattle.std.proofs.Common.{◌≡◌, ◌≢◌, refl, sym, subst, ℕ, zero, suc, ◌+◌, ◌<◌, ◌≤◌, ℤ, List, [], ◌∷◌, ◌++◌, Option, is_some, Some, None, IfSome, Result, Ok, Err, if◌then◌else◌, arith}
use Rattle.std.specs.Prelude.{nat_le, nat_lt}
use Rattle.std.proofs.lemmas.Bool.{cond_both, leb-true}
use Rattle.frac128.specs.Checked.{checked_sum}
use Rattle.frac128.specs.Fraction.{Fraction, one_value}
use Rattle.frac128.specs.declared.operations.Wide.{Wide}
use Rattle.model_data.specs.declared.model.Model.{Model}
use Rattle.model_data.specs.declared.params.Params.{Params}
use Rattle.model_data.specs.declared.solution.CertNode.TheVariants.{Bound, Farkas, Split}
use Rattle.model_data.specs.declared.solution.Point.{Point}
use Rattle.model_data.specs.declared.solution.SolEvent.{SolEvent}
use Rattle.model_data.specs.declared.solution.Weights.{Weights}
use Rattle.model_data.specs.declared.solution.WideAt.{WideAt}
use Rattle.dictionary.specs.Dictionary.{Dictionary}
use Rattle.dictionary.specs.declared.standard.Std.{Std}
use Rattle.solve_defs.specs.Ends.{point_of}
use Rattle.solve_defs.specs.Kinds.{are_continuous}
use Rattle.solve_defs.specs.Path.{Coming, Entering, a_pivot, an_end, coming, entry_count, further, here, next}
use Rattle.solve_defs.specs.Plain.{Node, Placed, Progress, Search, Turn, at_fractional, at_point, begun, begun_with, best_turn, both_back, bound_turn, bound_weights, cut_off, farkas_weights, first_fractional, going, improves, node_turn, outcome, over, pivot_turn, pivoted_to, plain_cut, pointless_turn, ray_turn, rooted, run, silent, split_turn, start, stopped, turn, turn_at, turn_on, unbounded_turn, with_finished}
use Rattle.solve_defs.specs.StandardForm.{point_back, shapes_of, standard_form}
use Rattle.solve_defs.specs.Values.{floor_of, whole}
use Rattle.solve_defs.specs.declared.cut.Cut.{Cut}
use Rattle.solve_defs.specs.declared.solving.LpEnd.TheVariants.{Best, NoPoint, Unbounded}
use Rattle.solve_defs.specs.declared.status.TheConstants.{INFEASIBLE, INF_OR_UNBD, INTERRUPTED, ITERATION_LIMIT, NODE_LIMIT, NUMERIC, OPTIMAL, UNBOUNDED, WORK_LIMIT}
use Rattle.search_laws.specs.Counts.{CountsNodes, IsDivided, nodes_below}
use Rattle.solve_defs.specs.Relaxations.{IsReached}
use Rattle.search_laws.specs.Searches.{with_own}
use Rattle.search_laws.specs.Turns.{KeepsOrEnds}
use Rattle.search_laws.proofs.Runs.{run-going, run-none, run-over}
use Rattle.search_laws.proofs.Steps.{read}
use Rattle.solve_defs.specs.Bounds.{at_least_cut, at_most_cut}

-- how many nodes there may be below all of these
unfoldable pub weight : (List Cut → ℕ) → List (List Cut) → ℕ
weight splits [] = 0
weight splits (cuts ∷ later) = nodes_below splits cuts + weight splits later

-- no more nodes than these with those that are still to come
pub record Counted (m : Model) (splits : List Cut → ℕ) (most : ℕ) (s : Search) : Type 0 where
  pub nodes : s.nodes + weight splits (with_own s.node s.waiting) ≤ most
  pub node : IfSome s.node (λ node. IsReached m node.cuts node.dictionary)

abbrev pub Leads : Model → Params → (List Cut → ℕ) → ℕ → Progress → Type 0
Leads m p splits most = KeepsOrEnds (Counted m splits most) (λ o cert. CountsNodes p most o)

counts : (p : Params) (most status : ℕ) (s : Search) (point : Option Point) (wide : Option WideAt) → s.nodes ≤ most → status ≢ NODE_LIMIT → CountsNodes p most (outcome status s point wide)
counts p most status s point wide nodes other = record { nodes = nodes; enough = λ _. other }

begins : (m : Model) (p : Params) (splits : List Cut → ℕ) (most : ℕ) (s : Search) (cuts : List Cut) (later : List (List Cut)) (form : Result Std Wide) → standard_form m cuts ≡ form
    → s.nodes + weight splits (cuts ∷ later) ≤ most → Leads m p splits most (begun_with s cuts later form)
begins m p splits most s cuts later (Ok form) is fits = record { nodes = fits; node = record { form = form; is_form = is; pivots = 0; path = here } }
begins m p splits most s cuts later (Err wide) is fits = counts p most NUMERIC s _ _ (omega (arith, fits)) (λ e. absurd (omega (arith, e)))

finished_counts : (p : Params) (most : ℕ) (s : Search) (kept : Option Point) → s.nodes ≤ most → CountsNodes p most (outcome (if is_some kept then OPTIMAL else INFEASIBLE) s kept None)
finished_counts p most s None fits = counts p most INFEASIBLE s None None fits (λ e. absurd (omega (arith, e)))
finished_counts p most s (Some point) fits = counts p most OPTIMAL s (Some point) None fits (λ e. absurd (omega (arith, e)))

pub begun_leads : (m : Model) (p : Params) (splits : List Cut → ℕ) (most : ℕ) (s : Search) (waiting : List (List Cut)) → s.nodes + weight splits waiting ≤ most → Leads m p splits most (begun m p s waiting)
unfolding weight
begun_leads m p splits most s [] fits = finished_counts p most s s.incumbent (omega (arith, fits))
begun_leads m p splits most s (cuts ∷ later) fits =
    cond_both {A = Progress} (nat_le p.nodes s.nodes) (stopped NODE_LIMIT s) (begun_with s cuts later (standard_form m cuts)) (Leads m p splits most)
    (λ met. let reached = leb-true p.nodes s.nodes met in record { nodes = omega (arith, fits); enough = λ enough e. absurd (omega (arith, fits, reached, enough)) })
    (λ _. begins m p splits most s cuts later (standard_form m cuts) refl fits)

-- ---- each kind of turn

-- with the node under way
abbrev Fits : (List Cut → ℕ) → ℕ → Search → Node → Type 0
Fits splits most s node = s.nodes + weight splits (node.cuts ∷ s.waiting) ≤ most

here_fits : (splits : List Cut → ℕ) (most : ℕ) (s : Search) (node : Node) → Fits splits most s node → s.nodes ≤ most
here_fits splits most s node fits = omega (arith, fits)

-- a node that is closed
leaf_fits : (splits : List Cut → ℕ) (most : ℕ) (s : Search) (node : Node) → Fits splits most s node → suc s.nodes + weight splits s.waiting ≤ most
unfolding weight
leaf_fits splits most s node fits = omega (arith, fits)

wide_counts : (p : Params) (splits : List Cut → ℕ) (most : ℕ) (s : Search) (node : Node) (point : Option Point) (wide : Option WideAt) → Fits splits most s node → CountsNodes p most (outcome NUMERIC s point wide)
wide_counts p splits most s node point wide fits = counts p most NUMERIC s point wide (here_fits splits most s node fits) (λ e. absurd (omega (arith, e)))

pivot_leads : (m : Model) (p : Params) (splits : List Cut → ℕ) (most : ℕ) (s : Search) (node : Node) (entering : Entering) → Fits splits most s node → IsReached m node.cuts node.dictionary
    → coming node.dictionary ≡ a_pivot entering → Leads m p splits most (pivot_turn p s node entering).progress
pivot_leads m p splits most s node entering fits reached comes =
    cond_both {A = Turn} (nat_le p.iterations s.pivots) (silent (stopped ITERATION_LIMIT s)) _ (λ t. Leads m p splits most t.progress)
    (λ _. counts p most ITERATION_LIMIT s s.incumbent None (here_fits splits most s node fits) (λ e. absurd (omega (arith, e))))
    (λ _. cond_both {A = Turn} (nat_lt p.work (s.work + entry_count node.dictionary)) (silent (stopped WORK_LIMIT s)) _ (λ t. Leads m p splits most t.progress)
    (λ _. counts p most WORK_LIMIT s s.incumbent None (here_fits splits most s node fits) (λ e. absurd (omega (arith, e))))
    (λ _. by_result (next entering node.dictionary) refl))
  where
    by_result : (r : Result Dictionary Wide) → next entering node.dictionary ≡ r → Leads m p splits most (pivoted_to s node r).progress
    by_result (Err wide) is = wide_counts p splits most s node s.incumbent (Some record { at = suc s.pivots; wide = wide }) fits
    by_result (Ok after) is = record {
      nodes = fits;
      node = record { form = reached.form; is_form = reached.is_form; pivots = suc reached.pivots; path = further reached.path record { entering = entering; comes = comes; gives = is } };
    }

pointless_leads : (m : Model) (p : Params) (splits : List Cut → ℕ) (most : ℕ) (s : Search) (node : Node) (weights : Result Weights Wide) → Fits splits most s node → Leads m p splits most (pointless_turn m p s weights).progress
pointless_leads m p splits most s node (Err wide) fits = wide_counts p splits most s node _ _ fits
pointless_leads m p splits most s node (Ok weights) fits = begun_leads m p splits most (with_finished s (Farkas weights) []) s.waiting (leaf_fits splits most s node fits)

bound_leads : (m : Model) (p : Params) (splits : List Cut → ℕ) (most : ℕ) (s : Search) (node : Node) (sol : Option SolEvent) (weights : Result Weights Wide) → Fits splits most s node
    → Leads m p splits most (bound_turn m p s sol weights).progress
bound_leads m p splits most s node sol (Err wide) fits = wide_counts p splits most s node _ _ fits
bound_leads m p splits most s node sol (Ok weights) fits = begun_leads m p splits most (with_finished s (Bound weights) []) s.waiting (leaf_fits splits most s node fits)

split_fits : (splits : List Cut → ℕ) (most : ℕ) (s : Search) (node : Node) (low high : List Cut) → splits low + splits high < splits node.cuts → Fits splits most s node
    → suc s.nodes + weight splits (low ∷ high ∷ s.waiting) ≤ most
unfolding weight
split_fits splits most s node low high less fits = omega (arith, less, fits)

split_leads : (m : Model) (p : Params) (splits : List Cut → ℕ) (most : ℕ) (s : Search) (node : Node) (place : ℕ) (k : ℤ) (sum : Result Fraction Wide) → Fits splits most s node
    → ((next : Fraction) → sum ≡ Ok next → splits (node.cuts ++ at_most_cut place k ∷ []) + splits (node.cuts ++ at_least_cut place next.num ∷ []) < splits node.cuts)
    → Leads m p splits most (split_turn m p s node place k sum).progress
split_leads m p splits most s node place k (Err wide) fits divides = wide_counts p splits most s node _ _ fits
split_leads m p splits most s node place k (Ok sum) fits divides =
    let low = node.cuts ++ at_most_cut place k ∷ [] in
    let high = node.cuts ++ at_least_cut place sum.num ∷ [] in
    begun_leads m p splits most (with_finished s (Split (suc place) k) (low ∷ high ∷ [])) (low ∷ high ∷ s.waiting) (split_fits splits most s node low high (divides sum refl) fits)

fractional_leads : (m : Model) (p : Params) (splits : List Cut → ℕ) (most : ℕ) (s : Search) (node : Node) (xs : List Fraction) (value : Fraction) (v : Option Placed) → IsDivided m splits → Fits splits most s node
    → IsReached m node.cuts node.dictionary → coming node.dictionary ≡ an_end Best → point_back (shapes_of m node.cuts) (point_of node.dictionary) ≡ Ok xs → first_fractional 0 m.vars xs ≡ v
    → Leads m p splits most (at_fractional m p s node (record { xs = xs; value = value }) v).progress
fractional_leads m p splits most s node xs value None divided fits reached comes is_point whole =
    bound_leads m p splits most (record s { incumbent = Some record { xs = xs; value = value } }) node _ (bound_weights m node) fits
fractional_leads m p splits most s node xs value (Some at) divided fits reached comes is_point is_first =
    split_leads m p splits most s node at.place (floor_of at.value) (checked_sum (whole (floor_of at.value)) one_value) fits
    (λ next sum. divided node.cuts node.dictionary xs at next reached comes is_point is_first sum)

point_leads : (m : Model) (p : Params) (splits : List Cut → ℕ) (most : ℕ) (s : Search) (node : Node) (xs : Result (List Fraction) Wide) → IsDivided m splits → Fits splits most s node
    → IsReached m node.cuts node.dictionary → coming node.dictionary ≡ an_end Best → point_back (shapes_of m node.cuts) (point_of node.dictionary) ≡ xs → Leads m p splits most (at_point m p s node (read m node) xs).progress
point_leads m p splits most s node (Err wide) divided fits reached comes is = wide_counts p splits most s node _ _ fits
point_leads m p splits most s node (Ok xs) divided fits reached comes is = fractional_leads m p splits most s node xs (read m node) (first_fractional 0 m.vars xs) divided fits reached comes is refl

best_leads : (m : Model) (p : Params) (splits : List Cut → ℕ) (most : ℕ) (s : Search) (node : Node) → IsDivided m splits → Fits splits most s node → IsReached m node.cuts node.dictionary
    → coming node.dictionary ≡ an_end Best → Leads m p splits most (best_turn m p s node).progress
best_leads m p splits most s node divided fits reached comes =
    cond_both {A = Turn} (improves m (read m node) s.incumbent) (at_point m p s node (read m node) (point_back (shapes_of m node.cuts) (point_of node.dictionary)))
    (bound_turn m p s None (bound_weights m node)) (λ t. Leads m p splits most t.progress)
    (λ _. point_leads m p splits most s node (point_back (shapes_of m node.cuts) (point_of node.dictionary)) divided fits reached comes refl)
    (λ _. bound_leads m p splits most s node None (bound_weights m node) fits)

last_counts : (p : Params) (splits : List Cut → ℕ) (most status : ℕ) (s : Search) (node : Node) (point : Option Point) (wide : Option WideAt) → Fits splits most s node → status ≢ NODE_LIMIT
    → CountsNodes p most (outcome status (record s { nodes = suc s.nodes }) point wide)
last_counts p splits most status s node point wide fits other =
    counts p most status (record s { nodes = suc s.nodes }) point wide (let less = leaf_fits splits most s node fits in omega (arith, less)) other

ray_leads : (m : Model) (p : Params) (splits : List Cut → ℕ) (most : ℕ) (s : Search) (node : Node) (both : Result (List Fraction × List Fraction) Wide) → Fits splits most s node → Leads m p splits most (ray_turn s both).progress
ray_leads m p splits most s node (Err wide) fits = wide_counts p splits most s node _ _ fits
ray_leads m p splits most s node (Ok both) fits = last_counts p splits most UNBOUNDED s node None None fits (λ e. absurd (omega (arith, e)))

unbounded_leads : (m : Model) (p : Params) (splits : List Cut → ℕ) (most : ℕ) (s : Search) (node : Node) → Fits splits most s node → Leads m p splits most (unbounded_turn m s node).progress
unbounded_leads m p splits most s node fits =
    cond_both {A = Turn} (are_continuous m.vars) (ray_turn s (both_back m node)) _ (λ t. Leads m p splits most t.progress)
    (λ _. ray_leads m p splits most s node (both_back m node) fits) (λ _. last_counts p splits most INF_OR_UNBD s node None None fits (λ e. absurd (omega (arith, e))))

node_leads : (m : Model) (p : Params) (splits : List Cut → ℕ) (most : ℕ) (s : Search) (node : Node) (c : Coming) → IsDivided m splits → Fits splits most s node → IsReached m node.cuts node.dictionary
    → coming node.dictionary ≡ c → Leads m p splits most (node_turn m p s node c).progress
node_leads m p splits most s node (a_pivot entering) divided fits reached comes = pivot_leads m p splits most s node entering fits reached comes
node_leads m p splits most s node (an_end Best) divided fits reached comes = best_leads m p splits most s node divided fits reached comes
node_leads m p splits most s node (an_end NoPoint) divided fits reached comes = pointless_leads m p splits most s node (farkas_weights m node) fits
node_leads m p splits most s node (an_end Unbounded) divided fits reached comes = unbounded_leads m p splits most s node fits

at_leads : (m : Model) (p : Params) (splits : List Cut → ℕ) (most : ℕ) (s : Search) (node : Option Node) → IsDivided m splits → s.node ≡ node → Counted m splits most s → Leads m p splits most (turn_at m p s node).progress
at_leads m p splits most s None divided is counted = counted
at_leads m p splits most s (Some node) divided is counted =
    node_leads m p splits most s node (coming node.dictionary) divided (subst (λ o. s.nodes + weight splits (with_own o s.waiting) ≤ most) is counted.nodes)
    (subst (λ o. IfSome o (λ n. IsReached m n.cuts n.dictionary)) is counted.node) refl

pub on_leads : (m : Model) (p : Params) (splits : List Cut → ℕ) (most : ℕ) (at : Progress) → IsDivided m splits → Leads m p splits most at → Leads m p splits most (turn_on m p at).progress
on_leads m p splits most (going s) divided counted = at_leads m p splits most s s.node divided refl counted
on_leads m p splits most (over o cert) divided counted = counted

rooted_leads : (m : Model) (p : Params) (splits : List Cut → ℕ) (most : ℕ) (s : Search) (node : Option Node) → s.node ≡ node → Counted m splits most s → Leads m p splits most (rooted m p s node)
rooted_leads m p splits most s None is counted = begun_leads m p splits most s s.waiting (subst (λ o. s.nodes + weight splits (with_own o s.waiting) ≤ most) is counted.nodes)
rooted_leads m p splits most s (Some node) is counted = counted

pub turn_leads : (m : Model) (p : Params) (splits : List Cut → ℕ) (most : ℕ) (s : Search) → IsDivided m splits → Counted m splits most s → Leads m p splits most (turn m p s).progress
unfolding turn
turn_leads m p splits most s divided counted = on_leads m p splits most (rooted m p s s.node) divided (rooted_leads m p splits most s s.node refl counted)

run_leads : (m : Model) (p : Params) (splits : List Cut → ℕ) (most k : ℕ) (at : Progress) → IsDivided m splits → Leads m p splits most at → Leads m p splits most (run m p k at).progress
run_leads m p splits most k (over o cert) divided counted = subst (λ r. Leads m p splits most r.progress) (sym (run-over m p k o cert)) counted
run_leads m p splits most zero (going s) divided counted = subst (λ r. Leads m p splits most r.progress) (sym (run-none m p (going s))) counted
run_leads m p splits most (suc k) (going s) divided counted =
    subst (λ r. Leads m p splits most r.progress) (sym (run-going m p k s)) (run_leads m p splits most k (turn m p s).progress divided (turn_leads m p splits most s divided counted))

cut_counts : (m : Model) (p : Params) (splits : List Cut → ℕ) (most : ℕ) (at : Progress) → Leads m p splits most at → CountsNodes p most (cut_off at).outcome
cut_counts m p splits most (going s) counted = counts p most INTERRUPTED s s.incumbent None (let fits = counted.nodes in omega (arith, fits)) (λ e. absurd (omega (arith, e)))
cut_counts m p splits most (over o cert) counted = counted

pub starts : (m : Model) (splits : List Cut → ℕ) → Counted m splits (nodes_below splits []) start
unfolding weight
starts m splits = record { nodes = omega arith; node = tt }

pub plain_counts : (m : Model) (p : Params) (splits : List Cut → ℕ) (k : ℕ) → IsDivided m splits → CountsNodes p (nodes_below splits []) (plain_cut m p k).outcome
plain_counts m p splits k divided =
    cut_counts m p splits (nodes_below splits []) (run m p k (going start)).progress (run_leads m p splits (nodes_below splits []) k (going start) divided (starts m splits))
