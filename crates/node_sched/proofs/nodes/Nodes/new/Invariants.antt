use Rattle.std.proofs.Common.{◌≡◌, []}
use Rattle.node_sched.specs.Schedule.{lines_of}
use Rattle.node_sched.proofs.Fresh.{first_nodes}
use Rattle.node_sched.proofs.nodes.Nodes.new.Given as goal

abbrev pub invariant-loop-before : goal.invariant-loop-before
invariant-loop-before l = l.lines.items ≡ lines_of [] (first_nodes l.before l.limit l.hard)
