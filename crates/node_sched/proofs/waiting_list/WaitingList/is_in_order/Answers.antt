use Rattle.std.proofs.Common.{subst}
use Rattle.node_sched.specs.Schedule.{UrgentFirst}
use Rattle.node_sched.proofs.Turns.{urgent_first}
use Rattle.node_sched.proofs.waiting_list.WaitingList.is_in_order.Goals as goal

pub returns-clause-urgent_first : goal.returns-clause-urgent_first
returns-clause-urgent_first c = subst UrgentFirst c.self.view_is (urgent_first c.self.inside.arrivals c.self.inside.entries.entries c.self.invariant.ordered c.self.invariant.early)
