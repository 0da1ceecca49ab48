-- What runs as slots by number; a slot is empty once its job has gone.
use Rattle.std.specs.List.{AllByRecursion}
use Rattle.std.specs.Prelude.{◌≡◌, ◌≤◌, ◌<◌, ◌+◌, ◌^◌, ◌==◌, ℕ, zero, suc, Bool, false, not, List, [], ◌∷◌, Option, Some, None, is_some, if◌then◌else◌}
use Rattle.base_names.specs.declared.node.NodeNo.{NodeNo}
use Rattle.base_names.specs.declared.node.Placed.{Placed}
use Rattle.base_names.specs.declared.node.Waiter.{Waiter}
use Rattle.cluster_defs.specs.Waiters.{is_node, is_waiter}
use Rattle.node_sched.specs.declared.slot.Slot.{Slot}
use Rattle.node_sched.specs.declared.slot.Spot.{Spot}
use Rattle.node_sched.specs.Schedule.{times_running}

abbrev pub with_placed : Option Placed → List Placed → List Placed
with_placed None ps = ps
with_placed (Some p) ps = p ∷ ps

abbrev pub placed_in : List Slot → List Placed
placed_in [] = []
placed_in (s ∷ ss) = with_placed s.placed (placed_in ss)

abbrev pub spot_or : ℕ → Waiter → Option Placed → Option Spot → Option Spot
spot_or number w None rest = rest
spot_or number w (Some p) rest = if is_waiter w p.waiter then Some record { node = p.node; number = number } else rest

-- where a waiter's slot is
abbrev pub spot_of : Waiter → List Slot → Option Spot
spot_of w [] = None
spot_of w (s ∷ ss) = spot_or s.number w s.placed (spot_of w ss)

-- the numbers rise, from a least one on
abbrev pub Rises : ℕ → List Slot → Type 0
Rises low [] = Unit {0}
Rises low (s ∷ ss) = (low ≤ s.number) × Rises (suc s.number) ss

-- the place of the slot of that number
abbrev pub place_of : ℕ → List Slot → ℕ
place_of k [] = zero
place_of k (s ∷ ss) = if s.number == k then zero else suc (place_of k ss)

-- whether a job runs in the slot; whether one runs there on another node; whether a spot is on another node
unfoldable pub is_full : Slot → Bool
is_full s = is_some s.placed

unfoldable pub elsewhere : NodeNo → Slot → Bool
elsewhere node s = elim s.placed as (λ _. Bool) [ None ↦ false | Some p ↦ not (is_node p.node node) ]

unfoldable pub is_away : NodeNo → Spot → Bool
is_away node x = not (is_node x.node node)

pub record AreSlots (slots : List Slot) (spots : Waiter → Option Spot) (next room : ℕ) : Type 0 where
  pub known : (w : Waiter) → spots w ≡ spot_of w slots
  pub once : (w : Waiter) → times_running w (placed_in slots) ≤ 1
  pub rises : Rises 0 slots
  pub below : AllByRecursion (λ s. s.number < next) slots
  pub numbers : next + room < 2 ^ 64
