use Rattle.std.proofs.Common.{◌≡◌, take}
use Rattle.node_sched.specs.Schedule.{jobs_at}
use Rattle.node_sched.specs.Slots.{placed_in}
use Rattle.node_sched.proofs.running_list.RunningList.jobs_at.Given as goal

abbrev pub invariant-loop-slot : goal.invariant-loop-slot
invariant-loop-slot l = l.jobs.items ≡ jobs_at l.node (placed_in (take l.slot-index l.slot-items))
