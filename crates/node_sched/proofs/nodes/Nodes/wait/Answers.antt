use Rattle.std.proofs.Common.{◌≤◌, ◌+◌, ◌∙◌, ap, arith, sym, subst, length, List, to_z, of_z, w8}
use Rattle.cluster_defs.specs.Cluster.{Waiting}
use Rattle.node_sched.specs.Counts.{AreCounted}
use Rattle.node_sched.specs.Schedule.{Schedule, times_running, times_waiting}
use Rattle.node_sched.proofs.Goes.{kept_waits}
use Rattle.node_sched.proofs.nodes.Nodes.wait.Goals as goal

pub invariant_of-self-2 : goal.invariant_of-self-2
invariant_of-self-2 c =
    let room : length c.self.inside.waiting + 1 ≤ c.reserve.new.self.room = omega (arith, c.in_ok-reserve.ensures.ok, c.len-many.ensures.len) in
    subst (λ (ws : List Waiting). AreCounted ws c.reserve.new.self c.self.inside.lines.items) (sym c.in_ok-push.ensures.ok)
    (kept_waits c.self.inside.waiting c.self.inside.running c.reserve.new.self c.self.inside.lines.items (record { waiter = c.args.waiter.now; priority = to_z w8 (of_z w8 c.args.priority) }) c.self.invariant
    (ap (λ (s : Schedule). times_waiting c.args.waiter.now s.waiting) c.self.view_is ∙ c.requires.waits_not)
    (ap (λ (s : Schedule). times_running c.args.waiter.now s.running) c.self.view_is ∙ c.requires.runs_not)
    c.reserve.ensures.placed room)
