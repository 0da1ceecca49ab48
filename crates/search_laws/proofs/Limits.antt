-- Each turn but the last raises the pivots or the nodes, and both stay within their limits.
use Rattle.std.proofs.Common.{◌≡◌, refl, sym, ◌∙◌, ap, subst, ℕ, ℤ, zero, suc, ◌+◌, ◌-◌, ◌<◌, ◌++◌, append-nil, ◌≤◌, List, [], ◌∷◌, Option, Some, None, Result, Ok, Err, arith}
use Rattle.std.specs.Prelude.{nat_le, nat_lt}
use Rattle.std.proofs.lemmas.Bool.{cond_both, leb-false, ltb-false}
use Rattle.frac128.specs.Fraction.{Fraction}
use Rattle.frac128.specs.declared.operations.Wide.{Wide}
use Rattle.model_data.specs.declared.model.Model.{Model}
use Rattle.model_data.specs.declared.params.Params.{Params}
use Rattle.model_data.specs.declared.solution.Cert.{Cert}
use Rattle.model_data.specs.declared.solution.Outcome.{Outcome}
use Rattle.model_data.specs.declared.solution.Point.{Point}
use Rattle.model_data.specs.declared.solution.SolEvent.{SolEvent}
use Rattle.model_data.specs.declared.solution.WideAt.{WideAt}
use Rattle.model_data.specs.declared.solution.Weights.{Weights}
use Rattle.model_data.specs.declared.solution.CertNode.{CertNode}
use Rattle.model_data.specs.declared.solution.CertNode.TheVariants.{Split}
use Rattle.dictionary.specs.Dictionary.{Dictionary, opening}
use Rattle.dictionary.specs.declared.standard.Std.{Std}
use Rattle.solve_defs.specs.Kinds.{are_continuous}
use Rattle.solve_defs.specs.Path.{Coming, Entering, a_pivot, an_end, coming, entry_count, next}
use Rattle.solve_defs.specs.Plain.{Node, Placed, Progress, Run, Search, Turn, at_fractional, at_point, begun, begun_with, best_turn, bound_turn, cut_off, finish, going, improves, next_node, node_turn, outcome, over, pivot_turn, pivoted_to, plain_cut, plain_run, pointless_turn, ray_turn, rooted, run, silent, split_turn, start, stopped, turn, turn_at, turn_limit, turn_on, unbounded_turn, with_finished}
use Rattle.solve_defs.specs.StandardForm.{standard_form}
use Rattle.solve_defs.specs.declared.cut.Cut.{Cut}
use Rattle.solve_defs.specs.declared.solving.LpEnd.{LpEnd}
use Rattle.solve_defs.specs.declared.solving.LpEnd.TheVariants.{Best, NoPoint, Unbounded}
use Rattle.solve_defs.specs.declared.status.TheConstants.{ITERATION_LIMIT, NODE_LIMIT, WORK_LIMIT}
use Rattle.solve_defs.specs.declared.solving.Events.{Events}
use Rattle.search_laws.specs.Turns.{IsOver, KeepsLimits, KeepsOrEnds, then_on}
use Rattle.search_laws.proofs.Runs.{run-going, run-more, run-none, run-over}
use Rattle.solve_defs.specs.Bounds.{at_least_cut, at_most_cut}

-- ---- counts

-- A node is under way, and so far no limit is passed.
pub record Within (p : Params) (s : Search) : Type 0 where
  pub node : Node
  pub is_node : s.node ≡ Some node
  pub pivots : s.pivots ≤ p.iterations
  pub work : s.work ≤ p.work
  pub nodes : s.nodes < p.nodes

-- so many pivots and nodes
pub record Stage (p : Params) (pivots nodes : ℕ) (s : Search) : Type 0 where
  pub pivots_are : s.pivots ≡ pivots
  pub nodes_are : s.nodes ≡ nodes
  pub within : Within p s

abbrev pub Ends : Params → Outcome → Cert → Type 0
Ends p o cert = KeepsLimits p o

-- the counts of a search where it ends
pub kept : (p : Params) (s : Search) (status : ℕ) (point : Option Point) (wide : Option WideAt) → s.pivots ≤ p.iterations → s.work ≤ p.work → s.nodes ≤ p.nodes → KeepsLimits p (outcome status s point wide)
kept p s status point wide pivots work nodes = record { pivots = pivots; nodes = nodes; work = work }

-- where a turn leads
abbrev pub Leads : Params → ℕ → ℕ → Progress → Type 0
Leads p pivots nodes = KeepsOrEnds (Stage p pivots nodes) (Ends p)

begins : (p : Params) (s : Search) (cuts : List Cut) (later : List (List Cut)) (form : Result Std Wide) → s.pivots ≤ p.iterations → s.work ≤ p.work → s.nodes < p.nodes
    → Leads p s.pivots s.nodes (begun_with s cuts later form)
begins p s cuts later (Ok form) pivots work nodes = record {
  pivots_are = refl;
  nodes_are = refl;
  within = record { node = record { cuts = cuts; dictionary = opening form }; is_node = refl; pivots = pivots; work = work; nodes = nodes };
}
begins p s cuts later (Err wide) pivots work nodes = kept p s _ _ _ pivots work (omega (arith, nodes))

-- a node begins only below the limit
pub begin_next : (m : Model) (p : Params) (s : Search) (waiting : List (List Cut)) → s.pivots ≤ p.iterations → s.work ≤ p.work → s.nodes ≤ p.nodes → Leads p s.pivots s.nodes (begun m p s waiting)
begin_next m p s [] pivots work nodes = kept p s _ _ _ pivots work nodes
begin_next m p s (cuts ∷ later) pivots work nodes =
    cond_both (nat_le p.nodes s.nodes) (stopped NODE_LIMIT s) (begun_with s cuts later (standard_form m cuts)) (Leads p s.pivots s.nodes) (λ _. kept p s _ _ _ pivots work nodes)
    (λ below. begins p s cuts later (standard_form m cuts) pivots work (leb-false p.nodes s.nodes below))

-- ---- one turn

pivot_leads : (p : Params) (s : Search) (node : Node) (entering : Entering) → Within p s → Leads p (suc s.pivots) s.nodes (pivot_turn p s node entering).progress
pivot_leads p s node entering within =
    cond_both {A = Turn} (nat_le p.iterations s.pivots) (silent (stopped ITERATION_LIMIT s)) _ (λ t. Leads p (suc s.pivots) s.nodes t.progress) (λ _. now)
    (λ below. cond_both {A = Turn} (nat_lt p.work (s.work + entry_count node.dictionary)) (silent (stopped WORK_LIMIT s)) _ (λ t. Leads p (suc s.pivots) s.nodes t.progress) (λ _. now)
    (λ enough. by_result (next entering node.dictionary) (leb-false p.iterations s.pivots below) (ltb-false p.work (s.work + entry_count node.dictionary) enough)))
  where
    now : {status : ℕ} {point : Option Point} {wide : Option WideAt} → KeepsLimits p (outcome status s point wide)
    now = kept p s _ _ _ within.pivots within.work (let less = within.nodes in omega (arith, less))

    by_result : (r : Result Dictionary Wide) → s.pivots < p.iterations → s.work + entry_count node.dictionary ≤ p.work → Leads p (suc s.pivots) s.nodes (pivoted_to s node r).progress
    by_result (Err wide) less enough = now
    by_result (Ok after) less enough = record {
      pivots_are = refl;
      nodes_are = refl;
      within = record { node = record node { dictionary = after }; is_node = refl; pivots = omega (arith, less); work = enough; nodes = within.nodes };
    }

finish_leads : (m : Model) (p : Params) (s : Search) (own : CertNode) (below : List (List Cut)) (sol : Option SolEvent) → s.pivots ≤ p.iterations → s.work ≤ p.work → s.nodes < p.nodes
    → Leads p s.pivots (suc s.nodes) (finish m p (with_finished s own below) sol).progress
finish_leads m p s own below sol pivots work nodes = begin_next m p (with_finished s own below) (with_finished s own below).waiting pivots work (omega (arith, nodes))

pointless_leads : (m : Model) (p : Params) (s : Search) (weights : Result Weights Wide) → s.pivots ≤ p.iterations → s.work ≤ p.work → s.nodes < p.nodes → Leads p s.pivots (suc s.nodes) (pointless_turn m p s weights).progress
pointless_leads m p s (Err wide) pivots work nodes = kept p s _ _ _ pivots work (omega (arith, nodes))
pointless_leads m p s (Ok weights) pivots work nodes = finish_leads m p s _ [] None pivots work nodes

bound_leads : (m : Model) (p : Params) (s : Search) (sol : Option SolEvent) (weights : Result Weights Wide) → s.pivots ≤ p.iterations → s.work ≤ p.work → s.nodes < p.nodes
    → Leads p s.pivots (suc s.nodes) (bound_turn m p s sol weights).progress
bound_leads m p s sol (Err wide) pivots work nodes = kept p s _ _ _ pivots work (omega (arith, nodes))
bound_leads m p s sol (Ok weights) pivots work nodes = finish_leads m p s _ [] sol pivots work nodes

split_leads : (m : Model) (p : Params) (s : Search) (node : Node) (place : ℕ) (k : ℤ) (next : Result Fraction Wide) → s.pivots ≤ p.iterations → s.work ≤ p.work → s.nodes < p.nodes
    → Leads p s.pivots (suc s.nodes) (split_turn m p s node place k next).progress
split_leads m p s node place k (Err wide) pivots work nodes = kept p s _ _ _ pivots work (omega (arith, nodes))
split_leads m p s node place k (Ok next) pivots work nodes =
    finish_leads m p s (Split (suc place) k)
    ((node.cuts ++ at_most_cut place k ∷ []) ∷ (node.cuts ++ at_least_cut place next.num ∷ []) ∷ []) None pivots work nodes

fractional_leads : (m : Model) (p : Params) (s : Search) (node : Node) (point : Point) (v : Option Placed) → s.pivots ≤ p.iterations → s.work ≤ p.work → s.nodes < p.nodes
    → Leads p s.pivots (suc s.nodes) (at_fractional m p s node point v).progress
fractional_leads m p s node point None pivots work nodes = bound_leads m p (record s { incumbent = Some point }) _ _ pivots work nodes
fractional_leads m p s node point (Some v) pivots work nodes = split_leads m p s node v.place _ _ pivots work nodes

point_leads : (m : Model) (p : Params) (s : Search) (node : Node) (value : Fraction) (xs : Result (List Fraction) Wide) → s.pivots ≤ p.iterations → s.work ≤ p.work → s.nodes < p.nodes
    → Leads p s.pivots (suc s.nodes) (at_point m p s node value xs).progress
point_leads m p s node value (Err wide) pivots work nodes = kept p s _ _ _ pivots work (omega (arith, nodes))
point_leads m p s node value (Ok xs) pivots work nodes = fractional_leads m p s node _ _ pivots work nodes

best_leads : (m : Model) (p : Params) (s : Search) (node : Node) → s.pivots ≤ p.iterations → s.work ≤ p.work → s.nodes < p.nodes → Leads p s.pivots (suc s.nodes) (best_turn m p s node).progress
best_leads m p s node pivots work nodes =
    cond_both {A = Turn} (improves m _ s.incumbent) _ _ (λ t. Leads p s.pivots (suc s.nodes) t.progress) (λ _. point_leads m p s node _ _ pivots work nodes) (λ _. bound_leads m p s None _ pivots work nodes)

ray_leads : (p : Params) (s : Search) (both : Result (List Fraction × List Fraction) Wide) → s.pivots ≤ p.iterations → s.work ≤ p.work → s.nodes < p.nodes → Leads p s.pivots (suc s.nodes) (ray_turn s both).progress
ray_leads p s (Err wide) pivots work nodes = kept p s _ _ _ pivots work (omega (arith, nodes))
ray_leads p s (Ok both) pivots work nodes = record { pivots = pivots; nodes = omega (arith, nodes); work = work }

unbounded_leads : (m : Model) (p : Params) (s : Search) (node : Node) → s.pivots ≤ p.iterations → s.work ≤ p.work → s.nodes < p.nodes → Leads p s.pivots (suc s.nodes) (unbounded_turn m s node).progress
unbounded_leads m p s node pivots work nodes =
    cond_both {A = Turn} (are_continuous m.vars) _ _ (λ t. Leads p s.pivots (suc s.nodes) t.progress) (λ _. ray_leads p s _ pivots work nodes) (λ _. record { pivots = pivots; nodes = omega (arith, nodes); work = work })

-- a node that ends
pub end_leads : (m : Model) (p : Params) (s : Search) (node : Node) (e : LpEnd) → s.pivots ≤ p.iterations → s.work ≤ p.work → s.nodes < p.nodes → Leads p s.pivots (suc s.nodes) (node_turn m p s node (an_end e)).progress
end_leads m p s node Best pivots work nodes = best_leads m p s node pivots work nodes
end_leads m p s node NoPoint pivots work nodes = pointless_leads m p s _ pivots work nodes
end_leads m p s node Unbounded pivots work nodes = unbounded_leads m p s node pivots work nodes

-- ---- each turn but the last raises one of the counts

pub record Counts (p : Params) (n : ℕ) (s : Search) : Type 0 where
  pub total : s.pivots + s.nodes ≡ n
  pub within : Within p s

abbrev pub Totals : Params → ℕ → Progress → Type 0
Totals p n = KeepsOrEnds (Counts p n) (Ends p)

counted : (p : Params) (a b : ℕ) (at : Progress) → Leads p a b at → Totals p (a + b) at
counted p a b (going s) stage = let pivots = stage.pivots_are in let nodes = stage.nodes_are in record { total = omega (arith, pivots, nodes); within = stage.within }
counted p a b (over o cert) keeps = keeps

node_leads : (m : Model) (p : Params) (s : Search) (node : Node) (c : Coming) → Within p s → Totals p (suc (s.pivots + s.nodes)) (node_turn m p s node c).progress
node_leads m p s node (a_pivot entering) within =
    subst (λ n. Totals p n (pivot_turn p s node entering).progress) (omega arith) (counted p (suc s.pivots) s.nodes (pivot_turn p s node entering).progress (pivot_leads p s node entering within))
node_leads m p s node (an_end e) within =
    subst (λ n. Totals p n (node_turn m p s node (an_end e)).progress) (omega arith)
    (counted p s.pivots (suc s.nodes) (node_turn m p s node (an_end e)).progress (end_leads m p s node e within.pivots within.work within.nodes))

on_leads : (m : Model) (p : Params) (n : ℕ) (at : Progress) → Totals p n at → Totals p (suc n) (turn_on m p at).progress
on_leads m p n (over o cert) keeps = keeps
on_leads m p n (going s) counts =
    subst (λ node. Totals p (suc n) (turn_at m p s node).progress) (sym counts.within.is_node)
    (subst (λ k. Totals p (suc k) (node_turn m p s counts.within.node (coming counts.within.node.dictionary)).progress) counts.total
    (node_leads m p s counts.within.node (coming counts.within.node.dictionary) counts.within))

pub rooted_is : (m : Model) (p : Params) (s : Search) (node : Node) → s.node ≡ Some node → rooted m p s s.node ≡ going s
rooted_is m p s node is = ap (rooted m p s) is

turn_leads : (m : Model) (p : Params) (n : ℕ) (s : Search) → Counts p n s → Totals p (suc n) (turn m p s).progress
unfolding turn
turn_leads m p n s counts =
    subst (λ at. Totals p (suc n) (turn_on m p at).progress) (sym (rooted_is m p s counts.within.node counts.within.is_node)) (on_leads m p n (going s) counts)

-- the root, before any turn
pub root_leads : (m : Model) (p : Params) → Leads p 0 0 (next_node m p start)
root_leads m p = begin_next m p start ([] ∷ []) (omega arith) (omega arith) (omega arith)

-- the first turn is that of the root
pub first_turn : (m : Model) (p : Params) → turn m p start ≡ turn_on m p (next_node m p start)
unfolding turn
first_turn m p = refl

-- ---- all turns

run_ends : (m : Model) (p : Params) (k n : ℕ) (at : Progress) → Totals p n at → p.iterations + p.nodes ≤ n + k → IsOver (run m p k at).progress
run_ends m p k n (over o cert) counts enough = subst (λ r. IsOver r.progress) (sym (run-over m p k o cert)) tt
run_ends m p zero n (going s) counts enough =
    let total = counts.total in let pivots = counts.within.pivots in let nodes = counts.within.nodes in absurd (omega (arith, enough, total, pivots, nodes))
run_ends m p (suc k) n (going s) counts enough =
    subst (λ r. IsOver r.progress) (sym (run-going m p k s)) (run_ends m p k (suc n) (turn m p s).progress (turn_leads m p n s counts) (omega (arith, enough)))

-- the first turn is that of the root
first_totals : (m : Model) (p : Params) → Totals p 1 (turn m p start).progress
first_totals m p =
    subst (λ (t : Turn). Totals p 1 t.progress) (sym (first_turn m p)) (on_leads m p 0 (next_node m p start) (counted p 0 0 (next_node m p start) (root_leads m p)))

-- so many turns, the first of them that of the root
started_over : (m : Model) (p : Params) (k : ℕ) → p.iterations + p.nodes ≤ suc k → IsOver (run m p (suc k) (going start)).progress
started_over m p k enough =
    subst (λ r. IsOver r.progress) (sym (run-going m p k start))
    (run_ends m p k 1 (turn m p start).progress (first_totals m p) (omega (arith, enough)))

pub plain_over : (m : Model) (p : Params) → IsOver (plain_run m p).progress
plain_over m p = subst (λ n. IsOver (run m p n (going start)).progress) one_more (started_over m p (p.iterations + p.nodes) (omega arith))
  where
    one_more : suc (p.iterations + p.nodes) ≡ turn_limit p
    one_more = omega arith

-- One turn less does, but for limits that allow nothing.
pub fewer_suffice : (m : Model) (p : Params) → 0 < p.iterations + p.nodes → IsOver (run m p (p.iterations + p.nodes) (going start)).progress
fewer_suffice m p some =
    subst (λ n. IsOver (run m p n (going start)).progress) (one_more (p.iterations + p.nodes) some) (started_over m p (p.iterations + p.nodes - 1) (omega arith))
  where
    one_more : (n : ℕ) → 0 < n → suc (n - 1) ≡ n
    one_more n h = omega (arith, h)

over_more : (m : Model) (p : Params) (k : ℕ) (r : Run) → IsOver r.progress → then_on r (run m p k r.progress) ≡ r
over_more m p k r ends = by_end r.progress r.turns ends
  where
    by_end : (at : Progress) (turns : List Events) → IsOver at → then_on (record { turns = turns; progress = at }) (run m p k at) ≡ record { turns = turns; progress = at }
    by_end (going s) turns h = absurd h
    by_end (over o cert) turns h =
        ap (then_on record { turns = turns; progress = over o cert }) (run-over m p k o cert) ∙ ap (λ ts. record { turns = ts; progress = over o cert }) (append-nil turns)

-- More turns than end a solve change nothing.
pub run_enough : (m : Model) (p : Params) (at : Progress) (n k : ℕ) → IsOver (run m p n at).progress → n ≤ k → run m p k at ≡ run m p n at
run_enough m p at n k ends enough =
    ap (λ j. run m p j at) (parted n k enough) ∙ run-more m p n (k - n) at ∙ over_more m p (k - n) (run m p n at) ends
  where
    parted : (n k : ℕ) → n ≤ k → k ≡ n + (k - n)
    parted n k less = omega (arith, less)

pub plain_more : (m : Model) (p : Params) (k : ℕ) → turn_limit p ≤ k → run m p k (going start) ≡ plain_run m p
plain_more m p k enough = run_enough m p (going start) (turn_limit p) k (plain_over m p) enough

-- ---- counts of outcomes

run_keeps : (m : Model) (p : Params) (k n : ℕ) (at : Progress) → Totals p n at → (n : ℕ) × Totals p n (run m p k at).progress
run_keeps m p k n (over o cert) keeps = (n, subst (λ r. Totals p n r.progress) (sym (run-over m p k o cert)) keeps)
run_keeps m p zero n (going s) counts = (n, subst (λ r. Totals p n r.progress) (sym (run-none m p (going s))) counts)
run_keeps m p (suc k) n (going s) counts =
    let rest = run_keeps m p k (suc n) (turn m p s).progress (turn_leads m p n s counts) in (rest.0, subst (λ r. Totals p rest.0 r.progress) (sym (run-going m p k s)) rest.1)

cut_keeps : (p : Params) (n : ℕ) (at : Progress) → Totals p n at → KeepsLimits p (cut_off at).outcome
cut_keeps p n (going s) counts = kept p s _ _ _ counts.within.pivots counts.within.work (let less = counts.within.nodes in omega (arith, less))
cut_keeps p n (over o cert) keeps = keeps

pub plain_cut_keeps : (m : Model) (p : Params) (k : ℕ) → KeepsLimits p (plain_cut m p k).outcome
plain_cut_keeps m p zero = subst (λ r. KeepsLimits p (cut_off r.progress).outcome) (sym (run-none m p (going start))) record { pivots = omega arith; nodes = omega arith; work = omega arith }
plain_cut_keeps m p (suc k) =
    let rest = run_keeps m p k 1 (turn m p start).progress (first_totals m p) in
    subst (λ r. KeepsLimits p (cut_off r.progress).outcome) (sym (run-going m p k start)) (cut_keeps p rest.0 (run m p k (turn m p start).progress).progress rest.1)

-- ---- one turn, and how many

totals_meet : (p : Params) (n : ℕ) (at : Progress) → Totals p n at → KeepsOrEnds (λ t. t.pivots + t.nodes ≡ n) (λ o cert. KeepsLimits p o) at
totals_meet p n (going s) counts = counts.total
totals_meet p n (over o cert) keeps = keeps

pub turn_raises : (m : Model) (p : Params) (s : Search) (node : Node) → s.node ≡ Some node → s.pivots ≤ p.iterations → s.work ≤ p.work → s.nodes < p.nodes
    → KeepsOrEnds (λ t. t.pivots + t.nodes ≡ suc (s.pivots + s.nodes)) (λ o cert. KeepsLimits p o) (turn m p s).progress
turn_raises m p s node is pivots work nodes =
    totals_meet p (suc (s.pivots + s.nodes)) (turn m p s).progress
    (turn_leads m p (s.pivots + s.nodes) s record { total = refl; within = record { node = node; is_node = is; pivots = pivots; work = work; nodes = nodes } })

-- ---- the counts of a search that goes on

same_search : (t s : Search) → going t ≡ going s → t ≡ s
same_search t s e = cc

not_over : (o : Outcome) (cert : Cert) (s : Search) → over o cert ≡ going s → ⊥
not_over o cert s e = absurd (cc)

total_at : (p : Params) (n : ℕ) (at : Progress) (s : Search) → Totals p n at → at ≡ going s → s.pivots + s.nodes ≡ n
total_at p n (going t) s counts is = subst (λ (u : Search). u.pivots + u.nodes ≡ n) (same_search t s is) counts.total
total_at p n (over o cert) s keeps is = absurd (not_over o cert s is)

counts_on : (m : Model) (p : Params) (k n : ℕ) (at : Progress) (s : Search) → Totals p n at → (run m p k at).progress ≡ going s → s.pivots + s.nodes ≡ n + k
counts_on m p k n (over o cert) s keeps is = total_at p (n + k) (over o cert) s keeps (sym (ap (λ (r : Run). r.progress) (run-over m p k o cert)) ∙ is)
counts_on m p zero n (going t) s counts is =
    let total = total_at p n (going t) s counts (sym (ap (λ (r : Run). r.progress) (run-none m p (going t))) ∙ is) in omega (arith, total)
counts_on m p (suc k) n (going t) s counts is =
    let total = counts_on m p k (suc n) (turn m p t).progress s (turn_leads m p n t counts) (sym (ap (λ (r : Run). r.progress) (run-going m p k t)) ∙ is) in omega (arith, total)

-- Behind so many turns a search that goes on has made and finished as many pivots and nodes.
pub counts_are_turns : (m : Model) (p : Params) (k : ℕ) (s : Search) → (run m p k (going start)).progress ≡ going s → s.pivots + s.nodes ≡ k
counts_are_turns m p zero s is = subst (λ (u : Search). u.pivots + u.nodes ≡ 0) (same_search start s (sym (ap (λ (r : Run). r.progress) (run-none m p (going start))) ∙ is)) refl
counts_are_turns m p (suc k) s is =
    let total = counts_on m p k 1 (turn m p start).progress s (first_totals m p) (sym (ap (λ (r : Run). r.progress) (run-going m p k start)) ∙ is) in omega (arith, total)
