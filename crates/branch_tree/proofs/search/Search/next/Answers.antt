use Rattle.std.proofs.Common.{◌≡◌, ◌∙◌, ap, subst, Some, All, length, rules}
use Rattle.model_data.specs.declared.model.Model.{Model}
use Rattle.std_form.specs.Cuts.{IsCutOf}
use Rattle.branch_tree.specs.Stage.{Stage}
use Rattle.branch_tree.specs.Waits.{next_of}
use Rattle.branch_tree.proofs.Underway.{next_cuts, under_way}
use Rattle.branch_tree.proofs.search.Search.next.Goals as goal

pub ready-requires : goal.ready-requires
ready-requires c =
    let i = c.self.inside in
    let u = under_way i.model.model i.params.nodes i.counts.nodes i.cases i.run c.requires.0 c.self.invariant (ap (λ (v : Stage). v.search.node) c.self.view_is ∙ c.requires.1) in
    let is : next_of i.cases.waiting ≡ Some c.in-Some.cuts.items = search rules in
    let model : i.model.model ≡ c.args.self.now.model = ap (λ (v : Stage). v.model) c.self.view_is in
    subst (λ (m : Model). All (IsCutOf (length m.vars)) c.in-Some.cuts.items) model
    (next_cuts (IsCutOf (length i.model.model.vars)) i.cases.waiting c.in-Some.cuts.items is u.1.waiting)
