use Rattle.std.proofs.Common.{◌≡◌, ◌≤◌, drop, vec_len}
use Rattle.cluster_defs.specs.Placement.{best_node}
use Rattle.node_sched.proofs.best.best_node.Given as goal

abbrev pub invariant-loop-index : goal.invariant-loop-index
invariant-loop-index l = record { within : l.index ≤ vec_len l.lines; best : l.best ≡ best_node l.priority (drop l.index l.lines.items) }

abbrev pub decreases-loop-index : goal.decreases-loop-index
decreases-loop-index l = l.index
