-- The waiting list as entries by turn.
use Rattle.std.specs.List.{AllByRecursion}
use Rattle.std.specs.List.Sorted.{IsStrictlySortedBy}
use Rattle.std.specs.Map.{keys_of}
use Rattle.std.specs.Ordering.{int_cmp, nat_cmp, ordering_then}
use Rattle.std.specs.Prelude.{◌≡◌, ◌≤◌, ◌<◌, ℕ, neg_ℤ, negsuc, ◌≤ℤ◌, List, [], ◌∷◌, map, Option, Some, None, if◌then◌else◌}
use Rattle.std.specs.declared.cmp.Ordering.{Ordering}
use Rattle.base_names.specs.declared.node.Waiter.{Waiter}
use Rattle.cluster_defs.specs.Cluster.{Waiting}
use Rattle.cluster_defs.specs.Waiters.{is_waiter}
use Rattle.node_sched.specs.declared.turn.Turn.{Turn}
use Rattle.node_sched.specs.Schedule.{times_waiting}

abbrev pub turn_cmp : Turn → Turn → Ordering
turn_cmp a b = ordering_then (int_cmp a.behind b.behind) (nat_cmp a.arrival b.arrival)

abbrev pub waiting_of : Turn × Waiter → Waiting
waiting_of e = record { waiter = e.1; priority = neg_ℤ e.0.behind }

-- what waits, in the order in which it may run
abbrev pub waiting_in : List (Turn × Waiter) → List Waiting
waiting_in es = map waiting_of es

-- the turn of a waiter
abbrev pub turn_of : Waiter → List (Turn × Waiter) → Option Turn
turn_of w [] = None
turn_of w (e ∷ es) = if is_waiter w e.1 then Some e.0 else turn_of w es

-- of a lawful priority, and given before so many arrivals
abbrev pub IsEarly : ℕ → Turn × Waiter → Type 0
IsEarly arrivals e = (negsuc 99 ≤ℤ e.0.behind) × (e.0.arrival < arrivals)

-- the entries with the index from waiters to turns, and the count of arrivals
pub record IsKept (entries : List (Turn × Waiter)) (turns : Waiter → Option Turn) (arrivals : ℕ) : Type 0 where
  pub known : (w : Waiter) → turns w ≡ turn_of w entries
  pub once : (w : Waiter) → times_waiting w (waiting_in entries) ≤ 1
  pub ordered : IsStrictlySortedBy turn_cmp (keys_of entries)
  pub early : AllByRecursion (IsEarly arrivals) entries
