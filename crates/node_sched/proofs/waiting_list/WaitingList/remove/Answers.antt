use Rattle.std.proofs.Common.{◌∙◌, ap, sym, subst, true, false, is_some, ◌≡◌, List}
use Rattle.cluster_defs.specs.Cluster.{Waiting}
use Rattle.cluster_defs.specs.Placement.{dequeue}
use Rattle.node_sched.specs.Schedule.{times_waiting}
use Rattle.node_sched.specs.Turns.{waiting_in}
use Rattle.node_sched.proofs.Turns.{dequeued_none, kept_removed, removed_is_dequeued, times_unknown, waits_by}
use Rattle.node_sched.proofs.waiting_list.WaitingList.remove.Goals as goal

pub invariant_of-self : goal.invariant_of-self
invariant_of-self c = kept_removed c.self.inside.entries.entries _ _ _ c.args.waiter.now c.in-Some.turn c.self.inside.arrivals c.self.invariant (sym c.in-Some.ensures.value) c.remove.ensures.updates.0 c.remove-in-Some.ensures.entries c.remove-in-Some.ensures.ordered

pub returns-in-Some-clause-list : goal.returns-in-Some-clause-list
returns-in-Some-clause-list c = ap waiting_in c.remove-in-Some.ensures.entries ∙ removed_is_dequeued c.self.inside.entries.entries _ c.args.waiter.now c.in-Some.turn c.self.inside.arrivals c.self.invariant (sym c.in-Some.ensures.value) ∙ ap (dequeue c.args.waiter.now) c.self.view_is

pub returns-in-Some-clause-waited : goal.returns-in-Some-clause-waited
returns-in-Some-clause-waited c = waits_by c.self.inside.entries.entries _ c.args.waiter.now c.self.inside.arrivals c.args.self.now c.self.invariant c.self.view_is true (ap is_some c.in-Some.ensures.value)

pub returns-in-None-clause-list : goal.returns-in-None-clause-list
returns-in-None-clause-list c = c.self.view_is ∙ sym (dequeued_none c.args.waiter.now c.args.self.now (subst (λ (l : List Waiting). times_waiting c.args.waiter.now l ≡ 0) c.self.view_is (times_unknown c.self.inside.entries.entries _ c.args.waiter.now c.self.inside.arrivals c.self.invariant (sym c.in-None.ensures.value))))

pub returns-in-None-clause-waited : goal.returns-in-None-clause-waited
returns-in-None-clause-waited c = waits_by c.self.inside.entries.entries _ c.args.waiter.now c.self.inside.arrivals c.args.self.now c.self.invariant c.self.view_is false (ap is_some c.in-None.ensures.value)
