-- The best point only gets better, and a relaxation without a bound is the root's.
use Rattle.std.proofs.Common.{◌≡◌, refl, sym, ◌∙◌, ap, subst, ℕ, zero, suc, ◌+◌, ◌-◌, ◌≤◌, ℤ, true, List, [], ◌∷◌, ◌++◌, map, Option, Some, None, IfSome, Result, Ok, Err, ◌⊎◌, inl, inr, ⊎_elim, is_some, if◌then◌else◌, arith}
use Rattle.std.specs.Prelude.{nat_le, nat_lt}
use Rattle.std.proofs.lemmas.Bool.{cond_both}
use Rattle.frac128.specs.Fraction.{Fraction}
use Rattle.frac128.specs.declared.operations.Wide.{Wide}
use Rattle.model_data.specs.declared.model.Model.{Model}
use Rattle.model_data.specs.declared.params.Params.{Params}
use Rattle.model_data.specs.declared.solution.Cert.{Cert}
use Rattle.model_data.specs.declared.solution.Cert.TheVariants.{Nothing}
use Rattle.model_data.specs.declared.solution.CertNode.{CertNode}
use Rattle.model_data.specs.declared.solution.CertNode.TheVariants.{Bound, Farkas, Split}
use Rattle.model_data.specs.declared.solution.Point.{Point}
use Rattle.model_data.specs.declared.solution.SolEvent.{SolEvent}
use Rattle.model_data.specs.declared.solution.Weights.{Weights}
use Rattle.model_data.specs.declared.solution.WideAt.{WideAt}
use Rattle.dictionary.specs.Dictionary.{Dictionary}
use Rattle.dictionary.specs.declared.standard.Std.{Std}
use Rattle.solve_defs.specs.Certificates.{Subtree, cuts_of, under}
use Rattle.solve_defs.specs.Ends.{point_of}
use Rattle.solve_defs.specs.Kinds.{are_continuous}
use Rattle.solve_defs.specs.Path.{Coming, Entering, a_pivot, an_end, coming, entry_count, next}
use Rattle.solve_defs.specs.Plain.{Node, Placed, Progress, Run, Search, Turn, at_fractional, at_point, begun, begun_with, best_turn, both_back, bound_turn, bound_weights, cut_off, farkas_weights, first_fractional, going, improves, node_turn, outcome, over, pivot_turn, pivoted_to, plain_cut, pointless_turn, ray_turn, rooted, run, silent, split_turn, start, stopped, turn, turn_at, turn_on, unbounded_turn, with_finished}
use Rattle.solve_defs.specs.Points.{IsUnbounded, relaxation}
use Rattle.solve_defs.specs.StandardForm.{point_back, shapes_of, standard_form}
use Rattle.solve_defs.specs.declared.cut.Cut.{Cut}
use Rattle.solve_defs.specs.declared.solving.LpEnd.TheVariants.{Best, NoPoint, Unbounded}
use Rattle.solve_defs.specs.declared.status.TheConstants.{INFEASIBLE, INF_OR_UNBD, INTERRUPTED, ITERATION_LIMIT, NODE_LIMIT, NUMERIC, OPTIMAL, UNBOUNDED, WORK_LIMIT}
use Rattle.solve_defs.specs.Relaxations.{IsReached, RelaxationLaw}
use Rattle.search_laws.specs.Searches.{EndsAtRoot, IsNoWorse, IsTreeTo, Stands, with_own}
use Rattle.search_laws.specs.Trees.{still_open}
use Rattle.search_laws.specs.Turns.{KeepsOrEnds}
use Rattle.search_laws.proofs.Bounded.{best_bounded}
use Rattle.search_laws.proofs.Looser.{unbounded_root}
use Rattle.search_laws.proofs.Orders.{improved, no_worse_self, no_worse_trans}
use Rattle.search_laws.proofs.Runs.{run-going, run-more, run-none, run-over}
use Rattle.search_laws.proofs.Steps.{Leads, begun_leads, read, start_stands, turn_leads}
use Rattle.solve_defs.specs.Bounds.{at_least_cut, at_most_cut}

-- The root is under way, or its relaxation has a bound.
abbrev IsRooted : Model → Search → Type 0
IsRooted m s = ((s.tree ≡ []) × (s.incumbent ≡ None) × (s.nodes ≡ 0)) ⊎ (IsUnbounded (relaxation m []) → ⊥)

-- the point that is kept where a search is cut there
abbrev point_at : Progress → Option Point
point_at at = (cut_off at).outcome.point

-- ---- where a turn leads

-- from this best point
abbrev Keeps : Model → Option Point → Progress → Type 0
Keeps m incumbent at = IsNoWorse m.direction incumbent (point_at at) × KeepsOrEnds (IsRooted m) (λ o cert. EndsAtRoot o) at

other_status : (status : ℕ) (s : Search) (point : Option Point) (wide : Option WideAt) → (status ≡ INF_OR_UNBD → ⊥) → (status ≡ UNBOUNDED → ⊥) → EndsAtRoot (outcome status s point wide)
other_status status s point wide a b = record { relaxed = λ e. absurd (a e); unbounded = λ e. absurd (b e) }

stop_keeps : (m : Model) (incumbent : Option Point) (s : Search) (status : ℕ) (wide : Option WideAt) (cert : Cert) → IsNoWorse m.direction incumbent s.incumbent
    → (status ≡ INF_OR_UNBD → ⊥) → (status ≡ UNBOUNDED → ⊥) → Keeps m incumbent (over (outcome status s s.incumbent wide) cert)
stop_keeps m incumbent s status wide cert better a b = (better, other_status status s s.incumbent wide a b)

wide_keeps : (m : Model) (incumbent : Option Point) (s : Search) (wide : Option WideAt) (cert : Cert) → IsNoWorse m.direction incumbent s.incumbent → Keeps m incumbent (over (outcome NUMERIC s s.incumbent wide) cert)
wide_keeps m incumbent s wide cert better = stop_keeps m incumbent s NUMERIC wide cert better (λ e. absurd (omega (arith, e))) (λ e. absurd (omega (arith, e)))

-- The root's relaxation has a bound, or nothing is to come behind the node.
abbrev Closes : Model → List (List Cut) → Type 0
Closes m waiting = (waiting ≡ []) ⊎ (IsUnbounded (relaxation m []) → ⊥)

begins_keep : (m : Model) (incumbent : Option Point) (s : Search) (cuts : List Cut) (later : List (List Cut)) (form : Result Std Wide) → IsNoWorse m.direction incumbent s.incumbent
    → (IsUnbounded (relaxation m []) → ⊥) → Keeps m incumbent (begun_with s cuts later form)
begins_keep m incumbent s cuts later (Ok form) better bounded = (better, inr bounded)
begins_keep m incumbent s cuts later (Err wide) better bounded = wide_keeps m incumbent s _ Nothing better

finished_keeps : (m : Model) (incumbent kept : Option Point) (s : Search) → IsNoWorse m.direction incumbent kept
    → IsNoWorse m.direction incumbent kept × EndsAtRoot (outcome (if is_some kept then OPTIMAL else INFEASIBLE) s kept None)
finished_keeps m incumbent None s better = (better, other_status INFEASIBLE s None None (λ e. absurd (omega (arith, e))) (λ e. absurd (omega (arith, e))))
finished_keeps m incumbent (Some point) s better = (better, other_status OPTIMAL s (Some point) None (λ e. absurd (omega (arith, e))) (λ e. absurd (omega (arith, e))))

begun_keeps : (m : Model) (p : Params) (incumbent : Option Point) (s : Search) (waiting : List (List Cut)) → IsNoWorse m.direction incumbent s.incumbent → Closes m waiting → Keeps m incumbent (begun m p s waiting)
begun_keeps m p incumbent s [] better closes = finished_keeps m incumbent s.incumbent s better
begun_keeps m p incumbent s (cuts ∷ later) better closes =
    cond_both {A = Progress} (nat_le p.nodes s.nodes) (stopped NODE_LIMIT s) (begun_with s cuts later (standard_form m cuts)) (Keeps m incumbent)
    (λ _. stop_keeps m incumbent s NODE_LIMIT None Nothing better (λ e. absurd (omega (arith, e))) (λ e. absurd (omega (arith, e))))
    (λ _. begins_keep m incumbent s cuts later (standard_form m cuts) better (⊎_elim (λ none. absurd (some cuts later none)) (λ bounded. bounded) closes))
  where
    some : (c : List Cut) (cs : List (List Cut)) → c ∷ cs ≡ [] → ⊥
    some c cs e = absurd (cc)

-- ---- the root

record Alone (cuts : List Cut) (waiting : List (List Cut)) : Type 0 where
  own : cuts ≡ []
  none : waiting ≡ []

-- Where no node is finished the root is under way.
alone : (m : Model) (incumbent : Option Point) (tree : List CertNode) (cuts : List Cut) (waiting : List (List Cut)) → IsTreeTo m incumbent tree (cuts ∷ waiting) → tree ≡ [] → Alone cuts waiting
alone m incumbent tree cuts waiting t empty = read_off t.later (sym (ap (still_open (under [] ∷ [])) empty) ∙ t.is_open) t.waits
  where
    first : (own : Subtree) (later : List Subtree) → ◌≡◌ {A = Option (List Subtree)} (Some (own ∷ [])) (Some later) → later ≡ own ∷ []
    first own later h = cc

    read_off : (later : List Subtree) → ◌≡◌ {A = Option (List Subtree)} (Some (under [] ∷ [])) (Some later) → map cuts_of later ≡ cuts ∷ waiting → Alone cuts waiting
    read_off later is waits =
        let e : [] ∷ [] ≡ cuts ∷ waiting = ap (map cuts_of) (sym (first (under []) later is)) ∙ waits in record { own = cc; none = cc }

closes : (m : Model) (s : Search) (node : Node) → IsTreeTo m s.incumbent s.tree (node.cuts ∷ s.waiting) → IsRooted m s → Closes m s.waiting
closes m s node t rooted = ⊎_elim (λ root. inl (alone m s.incumbent s.tree node.cuts s.waiting t root.0).none) (λ bounded. inr bounded) rooted

-- a node whose relaxation has a bound
bounded_root : (m : Model) (s : Search) (node : Node) → IsTreeTo m s.incumbent s.tree (node.cuts ∷ s.waiting) → IsRooted m s → (IsUnbounded (relaxation m node.cuts) → ⊥) → IsUnbounded (relaxation m []) → ⊥
bounded_root m s node t rooted bounded =
    ⊎_elim (λ root. subst (λ c. IsUnbounded (relaxation m c) → ⊥) (alone m s.incumbent s.tree node.cuts s.waiting t root.0).own bounded) (λ already. already) rooted

-- ---- each kind of turn

pivot_keeps : (m : Model) (p : Params) (s : Search) (node : Node) (entering : Entering) → IsRooted m s → Keeps m s.incumbent (pivot_turn p s node entering).progress
pivot_keeps m p s node entering rooted =
    cond_both {A = Turn} (nat_le p.iterations s.pivots) (silent (stopped ITERATION_LIMIT s)) _ (λ t. Keeps m s.incumbent t.progress)
    (λ _. stop_keeps m s.incumbent s ITERATION_LIMIT None Nothing self (λ e. absurd (omega (arith, e))) (λ e. absurd (omega (arith, e))))
    (λ _. cond_both {A = Turn} (nat_lt p.work (s.work + entry_count node.dictionary)) (silent (stopped WORK_LIMIT s)) _ (λ t. Keeps m s.incumbent t.progress)
    (λ _. stop_keeps m s.incumbent s WORK_LIMIT None Nothing self (λ e. absurd (omega (arith, e))) (λ e. absurd (omega (arith, e))))
    (λ _. by_result (next entering node.dictionary)))
  where
    self : IsNoWorse m.direction s.incumbent s.incumbent
    self = no_worse_self m.direction s.incumbent

    by_result : (r : Result Dictionary Wide) → Keeps m s.incumbent (pivoted_to s node r).progress
    by_result (Err wide) = wide_keeps m s.incumbent s (Some record { at = suc s.pivots; wide = wide }) Nothing self
    by_result (Ok after) = (self, rooted)

pointless_keeps : (m : Model) (p : Params) (s : Search) (weights : Result Weights Wide) → Closes m s.waiting → Keeps m s.incumbent (pointless_turn m p s weights).progress
pointless_keeps m p s (Err wide) behind = wide_keeps m s.incumbent s _ Nothing (no_worse_self m.direction s.incumbent)
pointless_keeps m p s (Ok weights) behind = begun_keeps m p s.incumbent (with_finished s (Farkas weights) []) s.waiting (no_worse_self m.direction s.incumbent) behind

bound_keeps : (m : Model) (p : Params) (incumbent : Option Point) (s : Search) (sol : Option SolEvent) (weights : Result Weights Wide) → IsNoWorse m.direction incumbent s.incumbent → Closes m s.waiting
    → Keeps m incumbent (bound_turn m p s sol weights).progress
bound_keeps m p incumbent s sol (Err wide) better behind = wide_keeps m incumbent s _ Nothing better
bound_keeps m p incumbent s sol (Ok weights) better behind = begun_keeps m p incumbent (with_finished s (Bound weights) []) s.waiting better behind

split_keeps : (m : Model) (p : Params) (s : Search) (node : Node) (place : ℕ) (k : ℤ) (sum : Result Fraction Wide) → (IsUnbounded (relaxation m []) → ⊥) → Keeps m s.incumbent (split_turn m p s node place k sum).progress
split_keeps m p s node place k (Err wide) bounded = wide_keeps m s.incumbent s _ Nothing (no_worse_self m.direction s.incumbent)
split_keeps m p s node place k (Ok sum) bounded =
    let low = node.cuts ++ at_most_cut place k ∷ [] in
    let high = node.cuts ++ at_least_cut place sum.num ∷ [] in
    begun_keeps m p s.incumbent (with_finished s (Split (suc place) k) (low ∷ high ∷ [])) (low ∷ high ∷ s.waiting) (no_worse_self m.direction s.incumbent) (inr bounded)

fractional_keeps : (m : Model) (p : Params) (s : Search) (node : Node) (point : Point) (v : Option Placed) → improves m point.value s.incumbent ≡ true → Closes m s.waiting → (IsUnbounded (relaxation m []) → ⊥)
    → Keeps m s.incumbent (at_fractional m p s node point v).progress
fractional_keeps m p s node point None better behind bounded =
    bound_keeps m p s.incumbent (record s { incumbent = Some point }) _ _ (improved m point s.incumbent better (Some point) (no_worse_self m.direction (Some point))) behind
fractional_keeps m p s node point (Some v) better behind bounded = split_keeps m p s node v.place _ _ bounded

point_keeps : (m : Model) (p : Params) (s : Search) (node : Node) (xs : Result (List Fraction) Wide) → RelaxationLaw m → IsTreeTo m s.incumbent s.tree (node.cuts ∷ s.waiting) → IsRooted m s
    → improves m (read m node) s.incumbent ≡ true → point_back (shapes_of m node.cuts) (point_of node.dictionary) ≡ xs → IsReached m node.cuts node.dictionary → coming node.dictionary ≡ an_end Best
    → Keeps m s.incumbent (at_point m p s node (read m node) xs).progress
point_keeps m p s node (Err wide) law t rooted better is reached comes = wide_keeps m s.incumbent s _ Nothing (no_worse_self m.direction s.incumbent)
point_keeps m p s node (Ok xs) law t rooted better is reached comes =
    fractional_keeps m p s node (record { xs = xs; value = read m node }) (first_fractional 0 m.vars xs) better (closes m s node t rooted)
    (bounded_root m s node t rooted (best_bounded (relaxation m node.cuts) record { xs = xs; value = read m node } (law.point node.cuts node.dictionary xs reached comes is)))

best_keeps : (m : Model) (p : Params) (s : Search) (node : Node) → RelaxationLaw m → IsTreeTo m s.incumbent s.tree (node.cuts ∷ s.waiting) → IsRooted m s → IsReached m node.cuts node.dictionary
    → coming node.dictionary ≡ an_end Best → Keeps m s.incumbent (best_turn m p s node).progress
best_keeps m p s node law t rooted reached comes =
    cond_both {A = Turn} (improves m (read m node) s.incumbent) (at_point m p s node (read m node) (point_back (shapes_of m node.cuts) (point_of node.dictionary)))
    (bound_turn m p s None (bound_weights m node)) (λ t. Keeps m s.incumbent t.progress)
    (λ better. point_keeps m p s node (point_back (shapes_of m node.cuts) (point_of node.dictionary)) law t rooted better refl reached comes)
    (λ _. bound_keeps m p s.incumbent s None (bound_weights m node) (no_worse_self m.direction s.incumbent) (closes m s node t rooted))

ray_keeps : (m : Model) (s : Search) (both : Result (List Fraction × List Fraction) Wide) → s.incumbent ≡ None → s.nodes ≡ 0 → Keeps m s.incumbent (ray_turn s both).progress
ray_keeps m s (Err wide) none first = wide_keeps m s.incumbent s _ Nothing (no_worse_self m.direction s.incumbent)
ray_keeps m s (Ok both) none first = (subst (λ i. IsNoWorse m.direction i None) (sym none) tt, record { relaxed = λ _. ap suc first; unbounded = λ _. ap suc first })

unbounded_keeps : (m : Model) (s : Search) (node : Node) → RelaxationLaw m → IsRooted m s → IsReached m node.cuts node.dictionary → coming node.dictionary ≡ an_end Unbounded
    → Keeps m s.incumbent (unbounded_turn m s node).progress
unbounded_keeps m s node law rooted reached comes =
    ⊎_elim
    (λ root. cond_both {A = Turn} (are_continuous m.vars) (ray_turn s (both_back m node)) _ (λ t. Keeps m s.incumbent t.progress)
    (λ _. ray_keeps m s (both_back m node) root.1 root.2)
    (λ _. (subst (λ i. IsNoWorse m.direction i None) (sym root.1) tt, record { relaxed = λ _. ap suc root.2; unbounded = λ _. ap suc root.2 })))
    (λ bounded. absurd (bounded (unbounded_root m node.cuts (law.unbounded node.cuts node.dictionary reached comes))))
    rooted

node_keeps : (m : Model) (p : Params) (s : Search) (node : Node) (c : Coming) → RelaxationLaw m → IsTreeTo m s.incumbent s.tree (node.cuts ∷ s.waiting) → IsRooted m s → IsReached m node.cuts node.dictionary
    → coming node.dictionary ≡ c → Keeps m s.incumbent (node_turn m p s node c).progress
node_keeps m p s node (a_pivot entering) law t rooted reached comes = pivot_keeps m p s node entering rooted
node_keeps m p s node (an_end Best) law t rooted reached comes = best_keeps m p s node law t rooted reached comes
node_keeps m p s node (an_end NoPoint) law t rooted reached comes = pointless_keeps m p s (farkas_weights m node) (closes m s node t rooted)
node_keeps m p s node (an_end Unbounded) law t rooted reached comes = unbounded_keeps m s node law rooted reached comes

-- ---- all turns

at_keeps : (m : Model) (p : Params) (s : Search) (node : Option Node) → RelaxationLaw m → s.node ≡ node → Stands m s → IsRooted m s → Keeps m s.incumbent (turn_at m p s node).progress
at_keeps m p s None law is stands root = (no_worse_self m.direction s.incumbent, root)
at_keeps m p s (Some node) law is stands root =
    node_keeps m p s node (coming node.dictionary) law (subst (λ o. IsTreeTo m s.incumbent s.tree (with_own o s.waiting)) is stands.tree) root
    (subst (λ o. IfSome o (λ n. IsReached m n.cuts n.dictionary)) is stands.node) refl

-- a search with a node under way, behind the turn that begins it
record Begins (m : Model) (incumbent : Option Point) (s : Search) : Type 0 where
  better : IsNoWorse m.direction incumbent s.incumbent
  stands : Stands m s
  root : IsRooted m s

on_keeps : (m : Model) (p : Params) (incumbent : Option Point) (at : Progress) → RelaxationLaw m → KeepsOrEnds (Begins m incumbent) (λ o cert. IsNoWorse m.direction incumbent o.point × EndsAtRoot o) at
    → Keeps m incumbent (turn_on m p at).progress
on_keeps m p incumbent (over o cert) law h = h
on_keeps m p incumbent (going s) law h =
    let next = at_keeps m p s s.node law refl h.stands h.root in
    (no_worse_trans m.direction incumbent s.incumbent (point_at (turn_at m p s s.node).progress) h.better next.0, next.1)

-- Where a node begins, what is finished stays.
begins_rooted : (m : Model) (s : Search) (cuts : List Cut) (later : List (List Cut)) (form : Result Std Wide) → IsRooted m s → Keeps m s.incumbent (begun_with s cuts later form)
begins_rooted m s cuts later (Ok form) root = (no_worse_self m.direction s.incumbent, root)
begins_rooted m s cuts later (Err wide) root = wide_keeps m s.incumbent s _ Nothing (no_worse_self m.direction s.incumbent)

begun_rooted : (m : Model) (p : Params) (s : Search) (waiting : List (List Cut)) → IsRooted m s → Keeps m s.incumbent (begun m p s waiting)
begun_rooted m p s [] root = finished_keeps m s.incumbent s.incumbent s (no_worse_self m.direction s.incumbent)
begun_rooted m p s (cuts ∷ later) root =
    cond_both {A = Progress} (nat_le p.nodes s.nodes) (stopped NODE_LIMIT s) (begun_with s cuts later (standard_form m cuts)) (Keeps m s.incumbent)
    (λ _. stop_keeps m s.incumbent s NODE_LIMIT None Nothing (no_worse_self m.direction s.incumbent) (λ e. absurd (omega (arith, e))) (λ e. absurd (omega (arith, e))))
    (λ _. begins_rooted m s cuts later (standard_form m cuts) root)

both : (m : Model) (incumbent : Option Point) (at : Progress) → Leads m at → Keeps m incumbent at → KeepsOrEnds (Begins m incumbent) (λ o cert. IsNoWorse m.direction incumbent o.point × EndsAtRoot o) at
both m incumbent (going s) stands keeps = record { better = keeps.0; stands = stands; root = keeps.1 }
both m incumbent (over o cert) right keeps = keeps

rooted_begins : (m : Model) (p : Params) (s : Search) (node : Option Node) → s.node ≡ node → Stands m s → IsRooted m s
    → KeepsOrEnds (Begins m s.incumbent) (λ o cert. IsNoWorse m.direction s.incumbent o.point × EndsAtRoot o) (rooted m p s node)
rooted_begins m p s None is stands root =
    both m s.incumbent (begun m p s s.waiting) (begun_leads m p s s.waiting (subst (λ o. IsTreeTo m s.incumbent s.tree (with_own o s.waiting)) is stands.tree)) (begun_rooted m p s s.waiting root)
rooted_begins m p s (Some node) is stands root = record { better = no_worse_self m.direction s.incumbent; stands = stands; root = root }

turn_keeps : (m : Model) (p : Params) (s : Search) → RelaxationLaw m → Stands m s → IsRooted m s → Keeps m s.incumbent (turn m p s).progress
unfolding turn
turn_keeps m p s law stands root = on_keeps m p s.incumbent (rooted m p s s.node) law (rooted_begins m p s s.node refl stands root)

-- ---- runs

record Goes (m : Model) (from to : Progress) : Type 0 where
  better : IsNoWorse m.direction (point_at from) (point_at to)
  leads : Leads m to
  root : KeepsOrEnds (IsRooted m) (λ o cert. EndsAtRoot o) to

stays : (m : Model) (at : Progress) → Leads m at → KeepsOrEnds (IsRooted m) (λ o cert. EndsAtRoot o) at → Goes m at at
stays m at leads root = record { better = no_worse_self m.direction (point_at at); leads = leads; root = root }

run_goes : (m : Model) (p : Params) (k : ℕ) (at : Progress) → RelaxationLaw m → Leads m at → KeepsOrEnds (IsRooted m) (λ o cert. EndsAtRoot o) at → Goes m at (run m p k at).progress
run_goes m p k (over o cert) law leads root = subst (λ r. Goes m (over o cert) r.progress) (sym (run-over m p k o cert)) (stays m (over o cert) leads root)
run_goes m p zero (going s) law leads root = subst (λ r. Goes m (going s) r.progress) (sym (run-none m p (going s))) (stays m (going s) leads root)
run_goes m p (suc k) (going s) law leads root =
    let next = turn_keeps m p s law leads root in
    let rest = run_goes m p k (turn m p s).progress law (turn_leads m p s law leads) next.1 in
    subst (λ r. Goes m (going s) r.progress) (sym (run-going m p k s)) record {
      better = no_worse_trans m.direction s.incumbent (point_at (turn m p s).progress) (point_at (run m p k (turn m p s).progress).progress) next.0 rest.better;
      leads = rest.leads;
      root = rest.root;
    }

starts : (m : Model) → IsRooted m start
starts m = inl (refl, refl, refl)

-- A solve that is cut later keeps a point that is no worse.
pub later_no_worse : (m : Model) (p : Params) (j k : ℕ) → RelaxationLaw m → j ≤ k → IsNoWorse m.direction (plain_cut m p j).outcome.point (plain_cut m p k).outcome.point
later_no_worse m p j k law less =
    let first = run_goes m p j (going start) law (start_stands m) (starts m) in
    let at = (run m p j (going start)).progress in
    subst (λ n. IsNoWorse m.direction (point_at at) (point_at (run m p n (going start)).progress)) (sym (parted j k less))
    (subst (λ (r : Run). IsNoWorse m.direction (point_at at) (point_at r.progress)) (sym (run-more m p j (k - j) (going start))) (run_goes m p (k - j) at law first.leads first.root).better)
  where
    parted : (n k : ℕ) → n ≤ k → k ≡ n + (k - n)
    parted n k less = omega (arith, less)

cut_at_root : (m : Model) (at : Progress) → KeepsOrEnds (IsRooted m) (λ o cert. EndsAtRoot o) at → EndsAtRoot (cut_off at).outcome
cut_at_root m (going s) root = other_status INTERRUPTED s s.incumbent None (λ e. absurd (omega (arith, e))) (λ e. absurd (omega (arith, e)))
cut_at_root m (over o cert) root = root

pub plain_at_root : (m : Model) (p : Params) (k : ℕ) → RelaxationLaw m → EndsAtRoot (plain_cut m p k).outcome
plain_at_root m p k law = cut_at_root m (run m p k (going start)).progress (run_goes m p k (going start) law (start_stands m) (starts m)).root
