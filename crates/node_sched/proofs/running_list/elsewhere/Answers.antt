use Rattle.std.proofs.Common.{rules}
use Rattle.cluster_defs.specs.Waiters.{is_node}
use Rattle.node_sched.specs.Slots.{elsewhere}
use Rattle.node_sched.proofs.running_list.elsewhere.Goals as goal

pub returns-in-Some : goal.returns-in-Some
unfolding elsewhere is_node
returns-in-Some c = search rules

pub returns-in-None : goal.returns-in-None
unfolding elsewhere
returns-in-None c = search rules
