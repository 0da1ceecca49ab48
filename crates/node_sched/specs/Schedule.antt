-- What waits for a place and what has one, apart from whose it is.
use Rattle.std.specs.Ordering.{int_eq}
use Rattle.std.specs.Prelude.{ℕ, ◌≡◌, ◌≤◌, ◌++◌, Bool, true, false, not, ℤ, pos, List, [], ◌∷◌, filter, find, map, length, Option, Some, None, if◌then◌else◌}
use Rattle.base_names.specs.declared.node.NodeLine.{NodeLine}
use Rattle.base_names.specs.declared.node.NodeNo.{NodeNo}
use Rattle.base_names.specs.declared.node.Placed.{Placed}
use Rattle.base_names.specs.declared.node.Waiter.{Waiter}
use Rattle.cluster_defs.specs.Cluster.{Node, Waiting}
use Rattle.cluster_defs.specs.Placement.{all_dequeued, best_node, places}
use Rattle.cluster_defs.specs.Waiters.{is_node, is_waiter}

-- What waits, in the order in which it may run; what runs, in the order of placing; and the nodes.
pub record Schedule : Type 0 where
  pub waiting : List Waiting
  pub running : List Placed
  pub nodes : List Node

-- how often it waits, and how often it runs
abbrev pub times_waiting : Waiter → List Waiting → ℕ
times_waiting w ws = length (filter (λ v. is_waiter w v.waiter) ws)

abbrev pub times_running : Waiter → List Placed → ℕ
times_running w ps = length (filter (λ p. is_waiter w p.waiter) ps)

-- ---- the nodes as they are listed

abbrev pub running_at : NodeNo → List Placed → ℕ
running_at node ps = length (filter (λ p. is_node node p.node) ps)

-- the jobs that run on a node
abbrev pub jobs_at : NodeNo → List Placed → List Waiter
jobs_at node ps = map (λ p. p.waiter) (filter (λ p. is_node node p.node) ps)

abbrev pub line_of : List Placed → Node → NodeLine
line_of ps n = record { node = n.node; state = n.state; limit = n.limit; hard = n.hard; running = running_at n.node ps }

abbrev pub lines_of : List Placed → List Node → List NodeLine
lines_of ps ns = map (line_of ps) ns

abbrev pub lines : Schedule → List NodeLine
lines s = lines_of s.running s.nodes

-- ---- placing

-- the places that a cluster with this waiting list and these lines gives
abbrev pub place : Schedule → List Placed
place s = places s.waiting (lines s)

-- These places have been given.
abbrev pub settled : List Placed → Schedule → Schedule
settled ps s = record s { waiting = all_dequeued ps s.waiting; running = s.running ++ ps }

-- ---- by classes: where a job may run depends on whether its priority is 100, and on nothing else of it

abbrev pub is_urgent : ℤ → Bool
is_urgent priority = int_eq priority (pos 100)

-- a priority of the class
abbrev pub priority_in : Bool → ℤ
priority_in true = pos 100
priority_in false = pos 0

-- the best node for one of the class
abbrev pub best_of : Bool → List NodeLine → Option NodeLine
best_of urgent ls = best_node (priority_in urgent) ls

-- the first that waits of a class
abbrev pub first_of : Bool → List Waiting → Option Waiting
first_of urgent ws = find (λ w. if urgent then is_urgent w.priority else not (is_urgent w.priority)) ws

abbrev pub placing : Option Waiting → Option NodeLine → Option Placed
placing None n = None
placing (Some w) None = None
placing (Some w) (Some n) = Some record { waiter = w.waiter; node = n.node }

-- where the first of the class goes, if it may run
abbrev pub next_of : Bool → Schedule → Option Placed
next_of urgent s = placing (first_of urgent s.waiting) (best_of urgent (lines s))

abbrev pub settled_if : Option Placed → Schedule → Schedule
settled_if None s = s
settled_if (Some p) s = settled (p ∷ []) s

-- Those of priority 100 come before all others.
abbrev pub UrgentFirst : List Waiting → Type 0
UrgentFirst [] = Unit {0}
UrgentFirst (w ∷ ws) = (is_urgent w.priority ≡ false → first_of true ws ≡ None) × UrgentFirst ws

-- what is kept of what waits
pub record InOrder (s : Schedule) : Type 0 where
  pub urgent_first : UrgentFirst s.waiting
  pub once : (w : Waiter) → times_waiting w s.waiting ≤ 1
