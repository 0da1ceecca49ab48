-- What the plain solver gives has a text.
use Rattle.std.proofs.Common.{◌≡◌, refl, sym, ap, subst, Bool, true, false, true≢false, ℕ, ℤ, zero, suc, ◌+◌, ◌<◌, ◌++◌, List, [], ◌∷◌, Option, Some, None, Result, Ok, Err, arith}
use Rattle.std.specs.Prelude.{◌==◌, ◌&&◌, nat_le, nat_lt, not, is_some, sum_by}
use Rattle.std.specs.List.{list_all}
use Rattle.std.proofs.lemmas.Bool.{cond_both, eqb-false, eqb-true, lt-ltb}
use Rattle.frac128.specs.Fraction.{Fraction}
use Rattle.frac128.proofs.Chains.{same_ok, through}
use Rattle.frac128.specs.declared.operations.Wide.{Wide}
use Rattle.model_data.specs.Size.{rows_of_sense}
use Rattle.model_data.specs.declared.model.Model.{Model}
use Rattle.model_data.specs.declared.params.Params.{Params}
use Rattle.model_data.specs.declared.solution.Cert.{Cert}
use Rattle.model_data.specs.declared.solution.Cert.TheVariants.{Nothing, Ray, Tree}
use Rattle.model_data.specs.declared.solution.CertNode.{CertNode}
use Rattle.model_data.specs.declared.solution.CertNode.TheVariants.{Split, Bound, Farkas}
use Rattle.model_data.specs.declared.solution.Outcome.{Outcome}
use Rattle.model_data.specs.declared.solution.Point.{Point}
use Rattle.model_data.specs.declared.solution.SolEvent.{SolEvent}
use Rattle.model_data.specs.declared.solution.Weight.{Weight}
use Rattle.model_data.specs.declared.solution.Weights.{Weights}
use Rattle.dictionary.specs.Dictionary.{Dictionary}
use Rattle.dictionary.specs.declared.standard.Std.{Std}
use Rattle.solve_defs.specs.Bounds.{at_least_cut, at_most_cut}
use Rattle.solve_defs.specs.Certificates.{IsValid}
use Rattle.solve_defs.specs.Kinds.{are_continuous}
use Rattle.solve_defs.specs.Path.{Coming, Entering, a_pivot, an_end, coming, entry_count, next}
use Rattle.solve_defs.specs.Plain.{Node, Placed, Progress, Search, Turn, at_fractional, at_point, begun, begun_with, best_turn, bound_turn, both_back, cut_off, farkas_weights, finish, going, improves, node_turn, over, pivot_turn, pivoted_to, plain_cut, pointless_turn, ray_turn, rooted, run, silent, split_turn, start, stopped, turn, turn_at, turn_on, unbounded_turn, with_finished}
use Rattle.solve_defs.specs.StandardForm.{low_weights, numbered, row_weights, shapes_of, standard_form, up_weights, weights_back}
use Rattle.solve_defs.specs.Values.{is_zero}
use Rattle.solve_defs.specs.declared.cut.Cut.{Cut}
use Rattle.solve_defs.specs.declared.solving.LpEnd.TheVariants.{Best, NoPoint, Unbounded}
use Rattle.solve_defs.proofs.ValidTrees.{tree_shape}
use Rattle.search_laws.specs.Turns.{SaysWhy}
use Rattle.search_laws.proofs.Stopped.{plain_says}
use Rattle.cert_text.specs.Spelling.{IsWritable, are_lawful, are_rising, is_lawful_cert, is_lawful_node}
use Rattle.solve_defs.specs.declared.status.TheConstants.{NODE_LIMIT, ITERATION_LIMIT, WORK_LIMIT, NUMERIC}

-- ---- weights

both_true : (a b : Bool) → a ≡ true → b ≡ true → (a && b) ≡ true
both_true true b ha hb = hb
both_true false b ha hb = ha

numbered_rise : (low number : ℕ) (xs : List Fraction) → low < number → are_rising low (numbered number xs) ≡ true
numbered_rise low number [] less = refl
numbered_rise low number (x ∷ xs) less =
    cond_both {A = List Weight} (is_zero x) (numbered (suc number) xs) (record { place = number; weight = x } ∷ numbered (suc number) xs) (λ ws. are_rising low ws ≡ true)
    (λ _. numbered_rise low (suc number) xs (omega (arith, less)))
    (λ other. both_true _ _ (both_true (nat_lt low number) _ (lt-ltb low number less) (ap not other)) (numbered_rise number (suc number) xs (omega arith)))

numbered_lawful : (rows lows ups : List Fraction) → are_lawful (record { rows = numbered 1 rows; lows = numbered 1 lows; ups = numbered 1 ups }) ≡ true
numbered_lawful rows lows ups =
    both_true _ _ (both_true _ _ (numbered_rise 0 1 rows (omega arith)) (numbered_rise 0 1 lows (omega arith))) (numbered_rise 0 1 ups (omega arith))

-- ---- where a search stands

-- the finished nodes have weights that can be written
abbrev pub HasText : Search → Type 0
HasText s = list_all is_lawful_node s.tree ≡ true

abbrev pub nodes_lawful : Cert → Bool
nodes_lawful Nothing = true
nodes_lawful (Ray point ray) = true
nodes_lawful (Tree nodes) = list_all is_lawful_node nodes

abbrev pub Leads : Progress → Type 0
Leads (going s) = HasText s
Leads (over o cert) = nodes_lawful cert ≡ true

next_leads : (m : Model) (p : Params) (s : Search) (waiting : List (List Cut)) → HasText s → Leads (begun m p s waiting)
next_leads m p s [] text = text
next_leads m p s (cuts ∷ later) text =
    cond_both {A = Progress} (nat_le p.nodes s.nodes) (stopped NODE_LIMIT s) (begun_with s cuts later (standard_form m cuts)) Leads (λ _. refl) (λ _. by_form (standard_form m cuts))
  where
    by_form : (form : Result Std Wide) → Leads (begun_with s cuts later form)
    by_form (Ok form) = text
    by_form (Err wide) = refl

-- ---- one turn

and_true : (a b : Bool) → (a && b) ≡ true → (a ≡ true) × (b ≡ true)
and_true true b h = (refl, h)
and_true false b h = absurd (true≢false (sym h))

more_nodes : (nodes : List CertNode) (own : CertNode) → list_all is_lawful_node nodes ≡ true → is_lawful_node own ≡ true → list_all is_lawful_node (nodes ++ own ∷ []) ≡ true
more_nodes [] own all one = both_true _ _ one refl
more_nodes (node ∷ nodes) own all one = let parts = and_true (is_lawful_node node) (list_all is_lawful_node nodes) all in both_true _ _ parts.0 (more_nodes nodes own parts.1 one)

finish_leads : (m : Model) (p : Params) (s : Search) (own : CertNode) (below : List (List Cut)) (sol : Option SolEvent) → HasText s → is_lawful_node own ≡ true
    → Leads (finish m p (with_finished s own below) sol).progress
finish_leads m p s own below sol text one = next_leads m p (with_finished s own below) (with_finished s own below).waiting (more_nodes s.tree own text one)

pivot_leads : (p : Params) (s : Search) (node : Node) (entering : Entering) → HasText s → Leads (pivot_turn p s node entering).progress
pivot_leads p s node entering text =
    cond_both {A = Turn} (nat_le p.iterations s.pivots) (silent (stopped ITERATION_LIMIT s)) _ (λ t. Leads t.progress) (λ _. refl)
    (λ _. cond_both {A = Turn} (nat_lt p.work (s.work + entry_count node.dictionary)) (silent (stopped WORK_LIMIT s)) _ (λ t. Leads t.progress) (λ _. refl)
    (λ _. by_result (next entering node.dictionary)))
  where
    by_result : (r : Result Dictionary Wide) → Leads (pivoted_to s node r).progress
    by_result (Err wide) = refl
    by_result (Ok after) = text

-- weights that come back can be written
weights_lawful : (m : Model) (cuts : List Cut) (ys reduced : List Fraction) (weights : Weights) → weights_back m (shapes_of m cuts) ys reduced ≡ Ok weights → are_lawful weights ≡ true
unfolding weights_back
weights_lawful m cuts ys reduced weights h =
    let rows = through (row_weights 0 m.rows ys) _ weights h in
    subst (λ ws. are_lawful ws ≡ true) (same_ok _ weights rows.rest) (numbered_lawful rows.value (low_weights 0 (shapes_of m cuts) reduced) (up_weights (sum_by (λ row. rows_of_sense row.sense) m.rows) 0 (shapes_of m cuts) ys reduced))

pointless_leads : (m : Model) (p : Params) (s : Search) (weights : Result Weights Wide) → HasText s → ((ws : Weights) → weights ≡ Ok ws → are_lawful ws ≡ true) → Leads (pointless_turn m p s weights).progress
pointless_leads m p s (Err wide) text lawful = refl
pointless_leads m p s (Ok weights) text lawful = finish_leads m p s (Farkas weights) [] None text (lawful weights refl)

bound_leads : (m : Model) (p : Params) (s : Search) (sol : Option SolEvent) (weights : Result Weights Wide) → HasText s → ((ws : Weights) → weights ≡ Ok ws → are_lawful ws ≡ true) → Leads (bound_turn m p s sol weights).progress
bound_leads m p s sol (Err wide) text lawful = refl
bound_leads m p s sol (Ok weights) text lawful = finish_leads m p s (Bound weights) [] sol text (lawful weights refl)

split_leads : (m : Model) (p : Params) (s : Search) (node : Node) (place : ℕ) (k : ℤ) (next : Result Fraction Wide) → HasText s → Leads (split_turn m p s node place k next).progress
split_leads m p s node place k (Err wide) text = refl
split_leads m p s node place k (Ok next) text = finish_leads m p s (Split (suc place) k)
    ((node.cuts ++ at_most_cut place k ∷ []) ∷ (node.cuts ++ at_least_cut place next.num ∷ []) ∷ []) None text refl

fractional_leads : (m : Model) (p : Params) (s : Search) (node : Node) (point : Point) (v : Option Placed) → HasText s → Leads (at_fractional m p s node point v).progress
fractional_leads m p s node point None text = bound_leads m p (record s { incumbent = Some point }) _ _ text (λ ws. weights_lawful m node.cuts _ _ ws)
fractional_leads m p s node point (Some v) text = split_leads m p s node v.place _ _ text

point_leads : (m : Model) (p : Params) (s : Search) (node : Node) (value : Fraction) (xs : Result (List Fraction) Wide) → HasText s → Leads (at_point m p s node value xs).progress
point_leads m p s node value (Err wide) text = refl
point_leads m p s node value (Ok xs) text = fractional_leads m p s node _ _ text

best_leads : (m : Model) (p : Params) (s : Search) (node : Node) → HasText s → Leads (best_turn m p s node).progress
best_leads m p s node text =
    cond_both {A = Turn} (improves m _ s.incumbent) _ _ (λ t. Leads t.progress) (λ _. point_leads m p s node _ _ text) (λ _. bound_leads m p s None _ text (λ ws. weights_lawful m node.cuts _ _ ws))

ray_leads : (s : Search) (both : Result (List Fraction × List Fraction) Wide) → Leads (ray_turn s both).progress
ray_leads s (Err wide) = refl
ray_leads s (Ok both) = refl

unbounded_leads : (m : Model) (s : Search) (node : Node) → Leads (unbounded_turn m s node).progress
unbounded_leads m s node = cond_both {A = Turn} (are_continuous m.vars) _ _ (λ t. Leads t.progress) (λ _. ray_leads s (both_back m node)) (λ _. refl)

node_leads : (m : Model) (p : Params) (s : Search) (node : Node) (c : Coming) → HasText s → Leads (node_turn m p s node c).progress
node_leads m p s node (a_pivot entering) text = pivot_leads p s node entering text
node_leads m p s node (an_end Best) text = best_leads m p s node text
node_leads m p s node (an_end NoPoint) text = pointless_leads m p s (farkas_weights m node) text (λ ws. weights_lawful m node.cuts _ _ ws)
node_leads m p s node (an_end Unbounded) text = unbounded_leads m s node

at_leads : (m : Model) (p : Params) (s : Search) (node : Option Node) → HasText s → Leads (turn_at m p s node).progress
at_leads m p s None text = text
at_leads m p s (Some node) text = node_leads m p s node (coming node.dictionary) text

on_leads : (m : Model) (p : Params) (progress : Progress) → Leads progress → Leads (turn_on m p progress).progress
on_leads m p (going s) text = at_leads m p s s.node text
on_leads m p (over o cert) ends = ends

rooted_leads : (m : Model) (p : Params) (s : Search) (node : Option Node) → HasText s → Leads (rooted m p s node)
rooted_leads m p s None text = next_leads m p s s.waiting text
rooted_leads m p s (Some node) text = text

turn_leads : (m : Model) (p : Params) (s : Search) → HasText s → Leads (turn m p s).progress
unfolding turn
turn_leads m p s text = on_leads m p (rooted m p s s.node) (rooted_leads m p s s.node text)

-- ---- all turns

run_leads : (m : Model) (p : Params) (k : ℕ) (progress : Progress) → Leads progress → Leads (run m p k progress).progress
unfolding run
run_leads m p k (over o cert) ends = ends
run_leads m p zero (going s) text = text
run_leads m p (suc k) (going s) text = run_leads m p k (turn m p s).progress (turn_leads m p s text)

cut_lawful : (progress : Progress) → Leads progress → nodes_lawful (cut_off progress).cert ≡ true
cut_lawful (going s) text = refl
cut_lawful (over o cert) ends = ends

-- the weights of each leaf can be written
plain_lawful : (m : Model) (p : Params) (k : ℕ) → nodes_lawful (plain_cut m p k).cert ≡ true
plain_lawful m p k = cut_lawful (run m p k (going start)).progress (run_leads m p k (going start) refl)

-- an operation is kept just where one was refused
wide_where_numeric : (m : Model) (p : Params) (o : Outcome) → SaysWhy m p o → is_some o.wide ≡ (o.status == NUMERIC)
wide_where_numeric m p o says = by_status (o.status == NUMERIC) refl
  where
    by_status : (b : Bool) → (o.status == NUMERIC) ≡ b → is_some o.wide ≡ b
    by_status true is = says.refused (eqb-true o.status NUMERIC is)
    by_status false is = ap is_some (says.not_refused (eqb-false o.status NUMERIC is))

-- A valid tree is whole, and so a certificate of the plain solver is lawful.
lawful_cert : (m : Model) (o : Outcome) (cert : Cert) → IsValid m o cert → nodes_lawful cert ≡ true → is_lawful_cert cert ≡ true
lawful_cert m o Nothing valid lawful = refl
lawful_cert m o (Ray point ray) valid lawful = refl
lawful_cert m o (Tree nodes) valid lawful = both_true _ _ (tree_shape m o nodes valid).whole lawful

-- The plain solver's outcome with its certificate has a text.
pub plain_writable : (m : Model) (p : Params) (k : ℕ) → IsValid m (plain_cut m p k).outcome (plain_cut m p k).cert → IsWritable (plain_cut m p k).outcome (plain_cut m p k).cert
plain_writable m p k valid = record {
  wide = wide_where_numeric m p (plain_cut m p k).outcome (plain_says m p k);
  cert = lawful_cert m (plain_cut m p k).outcome (plain_cut m p k).cert valid (plain_lawful m p k);
}
