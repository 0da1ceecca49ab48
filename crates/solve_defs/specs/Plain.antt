-- The plain solver, turn by turn: a tree of relaxations with limits, events and a certificate. It fixes which of several
-- right answers comes, with its counts, and where a solve ends that meets a limit or an operation that does not fit.
use Rattle.std.specs.Prelude.{ℕ, zero, suc, ◌+◌, ◌%◌, ◌==◌, nat_le, nat_lt, Bool, true, not, ◌&&◌, List, [], ◌∷◌, ◌++◌, Option, Some, None, is_some, Result, Ok, Err, ℤ, if◌then◌else◌}
use Rattle.frac128.specs.Checked.{checked_sum, ◌>>=◌}
use Rattle.frac128.specs.Fraction.{Fraction, one_value}
use Rattle.frac128.specs.declared.operations.Wide.{Wide}
use Rattle.model_data.specs.Size.{is_integer}
use Rattle.model_data.specs.declared.model.Model.{Model}
use Rattle.model_data.specs.declared.model.Var.{Var}
use Rattle.model_data.specs.declared.params.Params.{Params}
use Rattle.model_data.specs.declared.solution.Cert.{Cert}
use Rattle.model_data.specs.declared.solution.Cert.TheVariants.{Nothing, Ray, Tree}
use Rattle.model_data.specs.declared.solution.CertNode.{CertNode}
use Rattle.model_data.specs.declared.solution.CertNode.TheVariants.{Split, Bound, Farkas}
use Rattle.model_data.specs.declared.solution.NodeEvent.{NodeEvent}
use Rattle.model_data.specs.declared.solution.Outcome.{Outcome}
use Rattle.model_data.specs.declared.solution.Point.{Point}
use Rattle.model_data.specs.declared.solution.SolEvent.{SolEvent}
use Rattle.model_data.specs.declared.solution.WideAt.{WideAt}
use Rattle.model_data.specs.declared.solution.Weights.{Weights}
use Rattle.dictionary.specs.Dictionary.{Dictionary, entry, opening}
use Rattle.dictionary.specs.declared.standard.Std.{Std}
use Rattle.solve_defs.specs.Bounds.{at_least_cut, at_most_cut}
use Rattle.solve_defs.specs.Ends.{dual_of, farkas_of, point_of, ray_of}
use Rattle.solve_defs.specs.Kinds.{are_continuous}
use Rattle.solve_defs.specs.Path.{Coming, Entering, a_pivot, an_end, coming, entry_count, next}
use Rattle.solve_defs.specs.StandardForm.{point_back, ray_back, shapes_of, standard_form, weights_back}
use Rattle.solve_defs.specs.Values.{floor_of, is_better, is_whole, turned, whole}
use Rattle.solve_defs.specs.declared.cut.Cut.{Cut}
use Rattle.solve_defs.specs.declared.solving.Events.{Events}
use Rattle.solve_defs.specs.declared.solving.LpEnd.TheVariants.{Best, NoPoint, Unbounded}
use Rattle.solve_defs.specs.declared.status.TheConstants.{INFEASIBLE, INF_OR_UNBD, INTERRUPTED, ITERATION_LIMIT, NODE_LIMIT, NUMERIC, OPTIMAL, UNBOUNDED, WORK_LIMIT}

-- ---- where a solve stands

-- a relaxation under way
pub record Node : Type 0 where
  pub cuts : List Cut
  pub dictionary : Dictionary

-- between two turns
pub record Search : Type 0 where
  -- what is finished so far
  pub pivots : ℕ
  pub nodes : ℕ
  pub work : ℕ
  -- the best point so far
  pub incumbent : Option Point
  -- the finished nodes, each one before those below it
  pub tree : List CertNode
  -- the cuts of each node that is to begin, the next one first
  pub waiting : List (List Cut)
  -- none before the first turn
  pub node : Option Node

pub data Progress : Type 0 where
  going : Search → Progress
  over : Outcome → Cert → Progress

-- before the first turn the root is to begin, which has no cuts
abbrev pub start : Search
start = record { pivots = 0; nodes = 0; work = 0; incumbent = None; tree = []; waiting = [] ∷ []; node = None }

-- what a turn tells, and where the solve stands then
pub record Turn : Type 0 where
  pub events : Events
  pub progress : Progress

abbrev pub no_events : Events
no_events = record { simplex = None; sol = None; node = None }

abbrev pub silent : Progress → Turn
silent progress = record { events = no_events; progress = progress }

-- ---- ends

abbrev pub outcome : ℕ → Search → Option Point → Option WideAt → Outcome
outcome status s point wide = record { status = status; pivots = s.pivots; nodes = s.nodes; work = s.work; point = point; wide = wide }

-- with the best point so far, and nothing that is claimed of it
abbrev pub stopped : ℕ → Search → Progress
stopped status s = over (outcome status s s.incumbent None) Nothing

-- by an operation that does not fit, where so many pivots have begun
abbrev pub refused : ℕ → Wide → Search → Progress
refused begun wide s = over (outcome NUMERIC s s.incumbent (Some record { at = begun; wide = wide })) Nothing

-- no node is left
abbrev pub finished : Search → Progress
finished s = over (outcome (if is_some s.incumbent then OPTIMAL else INFEASIBLE) s s.incumbent None) (Tree s.tree)

-- ---- the next node

abbrev pub begun_with : Search → List Cut → List (List Cut) → Result Std Wide → Progress
begun_with s cuts later (Ok form) = going (record s { waiting = later; node = Some record { cuts = cuts; dictionary = opening form } })
begun_with s cuts later (Err wide) = refused s.pivots wide s

abbrev pub begun : Model → Params → Search → List (List Cut) → Progress
begun m p s [] = finished s
begun m p s (cuts ∷ later) = if nat_le p.nodes s.nodes then stopped NODE_LIMIT s else begun_with s cuts later (standard_form m cuts)

-- the next node begins, or the solve ends
abbrev pub next_node : Model → Params → Search → Progress
next_node m p s = begun m p s s.waiting

-- ---- a pivot

-- Every hundredth pivot is told.
abbrev pub pivot_events : ℕ → Events
pivot_events pivots = record no_events { simplex = if pivots % 100 == 0 then Some pivots else None }

abbrev pub pivoted_to : Search → Node → Result Dictionary Wide → Turn
pivoted_to s node (Err wide) = silent (refused (suc s.pivots) wide s)
pivoted_to s node (Ok after) = record {
  events = pivot_events (suc s.pivots);
  progress = going (record s { pivots = suc s.pivots; work = s.work + entry_count node.dictionary; node = Some (record node { dictionary = after }) });
}

-- The limits are tried before the pivot's first operation.
abbrev pub pivot_turn : Params → Search → Node → Entering → Turn
pivot_turn p s node entering =
    if nat_le p.iterations s.pivots then silent (stopped ITERATION_LIMIT s)
    else (if nat_lt p.work (s.work + entry_count node.dictionary) then silent (stopped WORK_LIMIT s)
    else pivoted_to s node (next entering node.dictionary))

-- ---- a finished node

-- Of models that aren't continuous finished nodes are told.
abbrev pub node_event : Model → Search → Option NodeEvent
node_event m s = if are_continuous m.vars then None else Some record { nodes = s.nodes; pivots = s.pivots }

abbrev pub sol_event : Model → Search → Fraction → Option SolEvent
sol_event m s value = if are_continuous m.vars then None else Some record { value = value; nodes = s.nodes; pivots = s.pivots }

-- one node more, which the tree has so, with these to begin next
abbrev pub with_finished : Search → CertNode → List (List Cut) → Search
with_finished s own below = record s { nodes = suc s.nodes; tree = s.tree ++ own ∷ []; waiting = below ++ s.waiting }

-- A finished node, in whose place another one begins.
abbrev pub finish : Model → Params → Search → Option SolEvent → Turn
finish m p s sol = record { events = record no_events { sol = sol; node = node_event m s }; progress = next_node m p s }

-- ---- a node without a point

abbrev pub pointless_turn : Model → Params → Search → Result Weights Wide → Turn
pointless_turn m p s (Err wide) = silent (refused s.pivots wide s)
pointless_turn m p s (Ok weights) = finish m p (with_finished s (Farkas weights) []) None

-- ---- an unbounded relaxation, which is the root's

abbrev pub both_back : Model → Node → Result (List Fraction × List Fraction) Wide
both_back m node = let shapes = shapes_of m node.cuts in do
  point ← point_back shapes (ray_of node.dictionary).point
  ray ← ray_back shapes (ray_of node.dictionary).ray
  Ok (point, ray)

abbrev pub with_node : Search → Search
with_node s = record s { nodes = suc s.nodes }

abbrev pub ray_turn : Search → Result (List Fraction × List Fraction) Wide → Turn
ray_turn s (Err wide) = silent (refused s.pivots wide s)
ray_turn s (Ok both) = silent (over (outcome UNBOUNDED (with_node s) None None) (Ray both.0 both.1))

-- Where some variable isn't continuous nothing is claimed, and nothing carried back.
abbrev pub unbounded_turn : Model → Search → Node → Turn
unbounded_turn m s node =
    if are_continuous m.vars
    then ray_turn s (both_back m node)
    else record {
      events = record no_events { node = node_event m (with_node s) };
      progress = over (outcome INF_OR_UNBD (with_node s) None None) Nothing;
    }

-- ---- a relaxation at its best point

abbrev pub improves : Model → Fraction → Option Point → Bool
improves m value None = true
improves m value (Some point) = is_better m.direction value point.value

abbrev pub bound_turn : Model → Params → Search → Option SolEvent → Result Weights Wide → Turn
bound_turn m p s sol (Err wide) = silent (refused s.pivots wide s)
bound_turn m p s sol (Ok weights) = finish m p (with_finished s (Bound weights) []) sol

abbrev pub bound_weights : Model → Node → Result Weights Wide
bound_weights m node = weights_back m (shapes_of m node.cuts) (dual_of node.dictionary).ys (dual_of node.dictionary).reduced

-- a variable by its place, with its value
pub record Placed : Type 0 where
  pub place : ℕ
  pub value : Fraction

-- the first integer variable whose value isn't whole, where the first place is given
abbrev pub first_fractional : ℕ → List Var → List Fraction → Option Placed
first_fractional place [] xs = None
first_fractional place (v ∷ vars) [] = None
first_fractional place (v ∷ vars) (x ∷ xs) =
    if is_integer v.kind && not (is_whole x) then Some record { place = place; value = x } else first_fractional (suc place) vars xs

-- the point is the best so far, and closes its node
abbrev pub point_turn : Model → Params → Search → Node → Point → Turn
point_turn m p s node point =
    let t = record s { incumbent = Some point } in bound_turn m p t (sol_event m (with_node t) point.value) (bound_weights m node)

-- Below the node first the variable is at most k, and then at least the next whole number.
abbrev pub split_turn : Model → Params → Search → Node → ℕ → ℤ → Result Fraction Wide → Turn
split_turn m p s node place k (Err wide) = silent (refused s.pivots wide s)
split_turn m p s node place k (Ok next) =
    let low = node.cuts ++ at_most_cut place k ∷ [] in
    let high = node.cuts ++ at_least_cut place next.num ∷ [] in
    finish m p (with_finished s (Split (suc place) k) (low ∷ high ∷ [])) None

abbrev pub at_fractional : Model → Params → Search → Node → Point → Option Placed → Turn
at_fractional m p s node point None = point_turn m p s node point
at_fractional m p s node point (Some v) =
    let k = floor_of v.value in split_turn m p s node v.place k (checked_sum (whole k) one_value)

abbrev pub at_point : Model → Params → Search → Node → Fraction → Result (List Fraction) Wide → Turn
at_point m p s node value (Err wide) = silent (refused s.pivots wide s)
at_point m p s node value (Ok xs) = at_fractional m p s node (record { xs = xs; value = value }) (first_fractional 0 m.vars xs)

-- Only a value that is better than the best so far is carried back.
abbrev pub best_turn : Model → Params → Search → Node → Turn
best_turn m p s node =
    let value = turned m.direction (entry node.dictionary.objective 0) in
    if improves m value s.incumbent
    then at_point m p s node value (point_back (shapes_of m node.cuts) (point_of node.dictionary))
    else bound_turn m p s None (bound_weights m node)

-- ---- a turn

abbrev pub farkas_weights : Model → Node → Result Weights Wide
farkas_weights m node = weights_back m (shapes_of m node.cuts) (farkas_of node.dictionary).ys (farkas_of node.dictionary).reduced

abbrev pub node_turn : Model → Params → Search → Node → Coming → Turn
node_turn m p s node (a_pivot entering) = pivot_turn p s node entering
node_turn m p s node (an_end Best) = best_turn m p s node
node_turn m p s node (an_end NoPoint) = pointless_turn m p s (farkas_weights m node)
node_turn m p s node (an_end Unbounded) = unbounded_turn m s node

abbrev pub turn_at : Model → Params → Search → Option Node → Turn
turn_at m p s None = silent (going s)
turn_at m p s (Some node) = node_turn m p s node (coming node.dictionary)

abbrev pub turn_on : Model → Params → Progress → Turn
turn_on m p (going s) = turn_at m p s s.node
turn_on m p (over o cert) = silent (over o cert)

-- The first turn begins the root.
abbrev pub rooted : Model → Params → Search → Option Node → Progress
rooted m p s None = next_node m p s
rooted m p s (Some node) = going s

-- One pivot is made, or one node is finished and the next one begins.
unfoldable pub turn : Model → Params → Search → Turn
turn m p s = turn_on m p (rooted m p s s.node)

-- ---- a solve

-- the events of each turn, and where the solve stands then
pub record Run : Type 0 where
  pub turns : List Events
  pub progress : Progress

abbrev pub behind : Events → Run → Run
behind events run = record { turns = events ∷ run.turns; progress = run.progress }

-- so many turns, or fewer where one of them ends the solve
unfoldable pub run : Model → Params → ℕ → Progress → Run
run m p k (over o cert) = record { turns = []; progress = over o cert }
run m p zero (going s) = record { turns = []; progress = going s }
run m p (suc k) (going s) = let t = turn m p s in behind t.events (run m p k t.progress)

-- an outcome with its certificate
pub record Ended : Type 0 where
  pub outcome : Outcome
  pub cert : Cert

-- A solve that is cut keeps its best point.
abbrev pub cut_off : Progress → Ended
cut_off (going s) = record { outcome = outcome INTERRUPTED s s.incumbent None; cert = Nothing }
cut_off (over o cert) = record { outcome = o; cert = cert }

-- the plain solver, cut after so many turns where it hasn't ended by then
abbrev pub plain_cut : Model → Params → ℕ → Ended
plain_cut m p k = cut_off (run m p k (going start)).progress

-- Each turn but the last raises the pivots or the nodes, and both have limits.
abbrev pub turn_limit : Params → ℕ
turn_limit p = p.iterations + p.nodes + 1

-- the plain solver without a cut
abbrev pub plain_run : Model → Params → Run
plain_run m p = run m p (turn_limit p) (going start)

abbrev pub plain : Model → Params → Ended
plain m p = cut_off (plain_run m p).progress
