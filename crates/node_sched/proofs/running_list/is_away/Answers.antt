use Rattle.std.proofs.Common.{rules}
use Rattle.cluster_defs.specs.Waiters.{is_node}
use Rattle.node_sched.specs.Slots.{is_away}
use Rattle.node_sched.proofs.running_list.is_away.Goals as goal

pub returns : goal.returns
unfolding is_away is_node
returns c = search rules
