use Rattle.std.proofs.Common.{◌∙◌, ap, arith}
use Rattle.branch_tree.specs.Stage.{Stage}
use Rattle.branch_tree.proofs.Underway.{under_way}
use Rattle.branch_tree.proofs.search.Search.with_node.Goals as goal

pub prove-unreachable-requires : goal.prove-unreachable-requires
prove-unreachable-requires c =
    let i = c.self.inside in
    let u = under_way i.model.model i.params.nodes i.counts.nodes i.cases i.run c.requires.0 c.self.invariant (ap (λ (v : Stage). v.search.node) c.self.view_is ∙ c.requires.1) in
    let within = u.1.within in
    let limit = c.if-prove.true in
    omega (arith, within, limit)
