use Rattle.std.proofs.Common.{ap}
use Rattle.node_sched.specs.Runs.{Runs}
use Rattle.node_sched.proofs.Slots.{slot_runs}
use Rattle.node_sched.proofs.running_list.RunningList.contains.Goals as goal

pub returns : goal.returns
returns c = slot_runs c.self.inside.slots.items _ c.args.waiter.now c.self.inside.next c.self.inside.room c.args.self.now.placed c.self.invariant.0 (ap (λ (r : Runs). r.placed) c.self.view_is) c.contains_key.result c.contains_key.ensures
