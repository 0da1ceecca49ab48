-- What is done to nodes and to what is on them, and why it is refused.
use Rattle.std.specs.Prelude.{ℕ, ◌==◌, nat_le, Bool, ◌&&◌, ◌||◌, List, [], Option}
use Rattle.base_names.specs.declared.node.NodeNo.{NodeNo}
use Rattle.base_names.specs.declared.node.NodeState.{NodeState}
use Rattle.base_names.specs.declared.node.Waiter.{Waiter}
use Rattle.base_names.specs.declared.refusal.Refusal.{Refusal}
use Rattle.table_defs.specs.Taken.{or_else}
use Rattle.cluster_defs.specs.Asks.{Ask}
use Rattle.cluster_defs.specs.Asks as asks
use Rattle.cluster_defs.specs.Cluster.{Node, Waiting}
use Rattle.cluster_defs.specs.Effects.{nodes_after, with_node}
use Rattle.cluster_defs.specs.Placement.{dequeue, enqueue}
use Rattle.cluster_defs.specs.Refusals.{node_refusal, range_refusal}
use Rattle.node_sched.specs.Runs.{without_node, without_waiter}
use Rattle.node_sched.specs.Schedule.{Schedule}

-- ---- as a cluster is opened

abbrev pub nothing_on : List Node → Schedule
nothing_on nodes = record { waiting = []; running = []; nodes = nodes }

-- ---- what comes, and what goes

abbrev pub came : Waiting → Schedule → Schedule
came w s = record s { waiting = enqueue w s.waiting }

abbrev pub gone : Waiter → Schedule → Schedule
gone w s = record s { waiting = dequeue w s.waiting; running = without_waiter w s.running }

-- ---- by an administrator's ask

abbrev pub refused : Ask → Schedule → Option Refusal
refused ask s = or_else (node_refusal s.nodes ask) (range_refusal ask)

abbrev pub with_nodes : Ask → Schedule → Schedule
with_nodes ask s = record s { nodes = nodes_after ask s.nodes }

-- What ran there is gone.
abbrev pub failed : NodeNo → Schedule → Schedule
failed node s = record s { running = without_node node s.running; nodes = nodes_after (asks.Fail node) s.nodes }

-- ---- one node

abbrev pub are_limits : ℕ → ℕ → Bool
are_limits limit hard = nat_le 1 limit && nat_le limit 1000 && ((hard == 0) || (nat_le limit hard && nat_le hard 1000))

abbrev pub with_state : NodeNo → NodeState → Schedule → Schedule
with_state node state s = record s { nodes = with_node node (λ n. record n { state = state }) s.nodes }

abbrev pub with_limits : NodeNo → ℕ → ℕ → Schedule → Schedule
with_limits node limit hard s = record s { nodes = with_node node (λ n. record n { limit = limit; hard = hard }) s.nodes }
