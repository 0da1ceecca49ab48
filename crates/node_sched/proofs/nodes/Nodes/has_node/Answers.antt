use Rattle.std.proofs.Common.{◌∙◌, ◌<◌, ap, refl, arith, not, eqb}
use Rattle.cluster_defs.specs.Refusals.{has_node}
use Rattle.node_sched.specs.Schedule.{Schedule}
use Rattle.node_sched.proofs.Steps.{has_is, has_not}
use Rattle.node_sched.proofs.nodes.Nodes.has_node.Goals as goal

pub returns-then-node-ne0 : goal.returns-then-node-ne0
returns-then-node-ne0 c =
    let some : 0 < c.args.node.0 = omega (arith, c.if-node-ne0.true) in
    has_is c.args.node c.self.inside.lines.items c.len.result _ c.self.invariant.numbered (grind (arith, c.len.ensures)) some refl ∙ ap (λ (s : Schedule). has_node c.args.node s.nodes) c.self.view_is

pub returns-else-node-ne0 : goal.returns-else-node-ne0
returns-else-node-ne0 c = ap (λ n. not (eqb n 0)) c.if-node-ne0.false ∙ has_not c.args.node c.self.inside.lines.items c.self.invariant.numbered c.if-node-ne0.false ∙ ap (λ (s : Schedule). has_node c.args.node s.nodes) c.self.view_is
