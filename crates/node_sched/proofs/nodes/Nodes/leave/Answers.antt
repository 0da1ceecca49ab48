use Rattle.std.proofs.Common.{◌≡◌, ◌<◌, ◌∙◌, arith, sym, subst, List, rules}
use Rattle.base_names.specs.declared.node.NodeLine.{NodeLine}
use Rattle.cluster_defs.specs.Cluster.{Waiting}
use Rattle.cluster_defs.specs.Placement.{dequeue}
use Rattle.node_sched.specs.Counts.{AreCounted}
use Rattle.node_sched.specs.Schedule.{Schedule, times_running, times_waiting}
use Rattle.node_sched.proofs.Goes.{kept_gone, kept_left, kept_same}
use Rattle.node_sched.proofs.Rule.{all_others}
use Rattle.node_sched.proofs.Steps.{busy_at, it_runs, it_runs_not, left_running, left_waiting, runs_there, there_no, there_yes, waits_none}
use Rattle.node_sched.proofs.nodes.Nodes.leave.Goals as goal

pub invariant_of-self : goal.invariant_of-self
invariant_of-self c = subst (λ (ws : List Waiting). AreCounted ws c.self.inside.running c.self.inside.lines.items) (sym c.remove.ensures.list) (kept_left c.self.inside.waiting c.self.inside.running c.self.inside.lines.items c.args.waiter.now c.self.invariant)

pub returns-then-remove-clause-schedule : goal.returns-then-remove-clause-schedule
returns-then-remove-clause-schedule c = left_waiting c.args.waiter.now c.self.inside.waiting c.remove.new.self c.self.inside.running c.self.inside.lines.items c.args.self.now c.self.invariant c.self.view_is c.remove.ensures.list (c.if-remove.ensures.waited.0 (search rules))

pub take_one-requires-clause-node : goal.take_one-requires-clause-node
take_one-requires-clause-node c = runs_there c.args.waiter.now c.in-Some.node c.self.inside.waiting c.self.inside.running c.self.inside.lines.items c.self.invariant (sym c.in-Some.ensures.node)

pub take_one-requires-clause-busy : goal.take_one-requires-clause-busy
take_one-requires-clause-busy c = busy_at c.args.waiter.now c.in-Some.node c.self.inside.waiting c.self.inside.running c.self.inside.lines.items c.self.invariant (sym c.in-Some.ensures.node)

pub invariant_of-self-in-Some : goal.invariant_of-self-in-Some
invariant_of-self-in-Some c =
    subst (λ (ws : List Waiting). AreCounted ws c.remove-2.new.self c.take_one.new.lines.items) (sym c.remove.ensures.list)
    (subst (λ (ls : List NodeLine). AreCounted (dequeue c.args.waiter.now c.self.inside.waiting) c.remove-2.new.self ls) (sym c.take_one.ensures)
    (kept_gone (dequeue c.args.waiter.now c.self.inside.waiting) c.self.inside.running c.remove-2.new.self c.self.inside.lines.items c.args.waiter.now c.in-Some.node
    (kept_left c.self.inside.waiting c.self.inside.running c.self.inside.lines.items c.args.waiter.now c.self.invariant)
    (sym c.in-Some.ensures.node) c.in-Some.ensures.placed c.in-Some.ensures.room))

pub invariant_of-self-in-None : goal.invariant_of-self-in-None
invariant_of-self-in-None c =
    subst (λ (ws : List Waiting). AreCounted ws c.remove-2.new.self c.self.inside.lines.items) (sym c.remove.ensures.list)
    (kept_same (dequeue c.args.waiter.now c.self.inside.waiting) c.self.inside.running c.remove-2.new.self c.self.inside.lines.items
    (kept_left c.self.inside.waiting c.self.inside.running c.self.inside.lines.items c.args.waiter.now c.self.invariant)
    (c.in-None.ensures.placed ∙ all_others _ c.self.inside.running.placed (it_runs_not c.args.waiter.now c.self.inside.running.placed c.in-None.ensures.node)) c.in-None.ensures.room)

pub returns-in-Some-clause-schedule : goal.returns-in-Some-clause-schedule
returns-in-Some-clause-schedule c = left_running c.args.waiter.now c.in-Some.node c.self.inside.waiting c.remove.new.self c.self.inside.running c.remove-2.new.self c.self.inside.lines.items c.take_one.new.lines.items c.args.self.now c.self.invariant c.self.view_is c.remove.ensures.list c.in-Some.ensures.placed c.take_one.ensures

pub returns-in-Some-clause-was_there : goal.returns-in-Some-clause-was_there
returns-in-Some-clause-was_there c =
    let runs : 0 < times_running c.args.waiter.now c.args.self.now.running = subst (λ (s : Schedule). 0 < times_running c.args.waiter.now s.running) c.self.view_is (it_runs c.args.waiter.now c.self.inside.running.placed c.in-Some.node c.in-Some.ensures.node) in
    there_yes _ (omega (arith, runs))

pub returns-in-None-clause-was_there : goal.returns-in-None-clause-was_there
returns-in-None-clause-was_there c =
    let runs : times_running c.args.waiter.now c.args.self.now.running ≡ 0 = subst (λ (s : Schedule). times_running c.args.waiter.now s.running ≡ 0) c.self.view_is (it_runs_not c.args.waiter.now c.self.inside.running.placed c.in-None.ensures.node) in
    let waits : times_waiting c.args.waiter.now c.args.self.now.waiting ≡ 0 = subst (λ (s : Schedule). times_waiting c.args.waiter.now s.waiting ≡ 0) c.self.view_is (waits_none (times_waiting c.args.waiter.now c.self.inside.waiting) c.if-remove.ensures.waited.1) in
    there_no _ (omega (arith, runs, waits))
