use Rattle.std.proofs.Common.{◌∙◌, ap, sym, List, option_map, true}
use Rattle.cluster_defs.specs.Cluster.{Waiting}
use Rattle.node_sched.specs.Schedule.{first_of}
use Rattle.node_sched.proofs.Turns.{head_ordinary, head_urgent, urgent_first}
use Rattle.node_sched.proofs.waiting_list.WaitingList.first_urgent.Goals as goal

pub returns-then-is_urgent : goal.returns-then-is_urgent
returns-then-is_urgent c = sym (head_urgent c.self.inside.entries.entries (c.in-Some.turn.now, c.in-Some.waiter.now) c.in-Some.ensures.first (sym c.is_urgent.ensures ∙ c.if-is_urgent.true)) ∙ ap (λ (l : List Waiting). option_map (λ (w : Waiting). w.waiter) (first_of true l)) c.self.view_is

pub returns-else-is_urgent : goal.returns-else-is_urgent
returns-else-is_urgent c = ap (option_map (λ (w : Waiting). w.waiter)) (sym (head_ordinary c.self.inside.entries.entries (c.in-Some.turn.now, c.in-Some.waiter.now) c.in-Some.ensures.first (sym c.is_urgent.ensures ∙ c.if-is_urgent.false) (urgent_first c.self.inside.arrivals c.self.inside.entries.entries c.self.invariant.ordered c.self.invariant.early)) ∙ ap (first_of true) c.self.view_is)
