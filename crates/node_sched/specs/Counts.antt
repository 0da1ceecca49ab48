-- The nodes as lines, which count what runs.
use Rattle.std.specs.List.{AllByRecursion}
use Rattle.std.specs.Prelude.{◌≡◌, ◌≤◌, ◌<◌, ◌^◌, ◌+◌, ℕ, suc, true, List, [], ◌∷◌, length, map}
use Rattle.base_names.specs.declared.node.NodeLine.{NodeLine}
use Rattle.base_names.specs.declared.node.NodeNo.{NodeNo}
use Rattle.base_names.specs.declared.node.Waiter.{Waiter}
use Rattle.cluster_defs.specs.Cluster.{Node, Waiting}
use Rattle.cluster_defs.specs.Waiters.{is_node}
use Rattle.node_sched.specs.Runs.{Runs}
use Rattle.node_sched.specs.Schedule.{Schedule, lines_of, times_running, times_waiting}

abbrev pub unlisted : NodeLine → Node
unlisted l = record { node = l.node; state = l.state; limit = l.limit; hard = l.hard }

abbrev pub nodes_of : List NodeLine → List Node
nodes_of ls = map unlisted ls

-- nodes are numbered in order, from the number after k
abbrev pub IsNumbered : ℕ → List NodeLine → Type 0
IsNumbered k [] = Unit {0}
IsNumbered k (l ∷ ls) = (l.node.0 ≡ suc k) × IsNumbered (suc k) ls

abbrev pub IsNumber : ℕ → NodeNo → Type 0
IsNumber n node = (1 ≤ node.0) × (node.0 ≤ n)

-- the node's line counts fewer than 2 ^ 63, or at least one
abbrev pub IsFitAt : NodeNo → List NodeLine → Type 0
IsFitAt node ls = AllByRecursion (λ l. is_node node l.node ≡ true → l.running < 2 ^ 63) ls

abbrev pub IsBusyAt : NodeNo → List NodeLine → Type 0
IsBusyAt node ls = AllByRecursion (λ l. is_node node l.node ≡ true → 0 < l.running) ls

pub record AreCounted (waiting : List Waiting) (runs : Runs) (ls : List NodeLine) : Type 0 where
  pub counted : ls ≡ lines_of runs.placed (nodes_of ls)
  pub numbered : IsNumbered 0 ls
  pub placed_there : AllByRecursion (λ p. IsNumber (length ls) p.node) runs.placed
  -- no waiter waits or runs twice, or waits while it runs
  pub once : (w : Waiter) → times_waiting w waiting + times_running w runs.placed ≤ 1
  -- a place for each that waits
  pub room : length waiting ≤ runs.room

abbrev pub schedule_of : List Waiting → Runs → List NodeLine → Schedule
schedule_of waiting runs ls = record { waiting = waiting; running = runs.placed; nodes = nodes_of ls }
