use Rattle.std.proofs.Common.{◌∙◌, sym, ap, refl, subst, true}
use Rattle.cluster_defs.specs.Refusals.{has_node}
use Rattle.node_sched.specs.Counts.{AreCounted}
use Rattle.node_sched.specs.Schedule.{Schedule}
use Rattle.node_sched.proofs.Counts.{number_of}
use Rattle.node_sched.proofs.Goes.{kept_failed}
use Rattle.node_sched.proofs.Steps.{after_failed}
use Rattle.node_sched.proofs.nodes.Nodes.fail.Goals as goal

pub set_failed-requires-clause-node : goal.set_failed-requires-clause-node
set_failed-requires-clause-node c = number_of c.args.node c.self.inside.lines.items true c.self.invariant.numbered (ap (λ (s : Schedule). has_node c.args.node s.nodes) c.self.view_is ∙ sym c.if-not-has_node.ensures) refl

pub invariant_of-self : goal.invariant_of-self
invariant_of-self c = subst (AreCounted c.self.inside.waiting c.take_away.new.self) (sym c.set_failed.ensures) (kept_failed c.self.inside.waiting c.self.inside.running c.take_away.new.self c.self.inside.lines.items c.args.node c.self.invariant c.take_away.ensures.placed c.take_away.ensures.room)

pub returns-clause-ok : goal.returns-clause-ok
returns-clause-ok c = after_failed c.args.node c.self.inside.waiting c.self.inside.running c.take_away.new.self c.self.inside.lines.items c.set_failed.new.lines.items c.args.self.now c.self.view_is c.take_away.ensures.placed c.set_failed.ensures
