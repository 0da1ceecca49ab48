-- What runs, with the room that is made for more.
use Rattle.std.specs.Prelude.{ℕ, not, List, filter, find, option_map, Option}
use Rattle.base_names.specs.declared.node.NodeNo.{NodeNo}
use Rattle.base_names.specs.declared.node.Placed.{Placed}
use Rattle.base_names.specs.declared.node.Waiter.{Waiter}
use Rattle.cluster_defs.specs.Waiters.{is_node, is_waiter}

pub record Runs : Type 0 where
  -- in the order of placing
  pub placed : List Placed
  -- how many more may be placed without memory
  pub room : ℕ

-- where a waiter runs
abbrev pub node_of : Waiter → List Placed → Option NodeNo
node_of w ps = option_map (λ p. p.node) (find (λ p. is_waiter w p.waiter) ps)

-- what runs without a waiter, and what runs elsewhere
abbrev pub without_waiter : Waiter → List Placed → List Placed
without_waiter w ps = filter (λ p. not (is_waiter w p.waiter)) ps

abbrev pub without_node : NodeNo → List Placed → List Placed
without_node node ps = filter (λ p. not (is_node node p.node)) ps
