use Rattle.std.proofs.Common.{sym, ◌∙◌, ap, List, get_or, Some}
use Rattle.model_data.specs.declared.model.Var.{Var}
use Rattle.model_core.specs.Look.{var_of}
use Rattle.model_core.proofs.Found.{var_found, var_missing}
use Rattle.model_core.proofs.indexed.IndexedModel.var.Goals as goal

pub returns-in_default : goal.returns-in_default
returns-in_default c =
    sym (var_missing c.self.invariant.index c.args.name.now c.in_default.ensures.found) ∙ ap (var_of c.args.name.now) c.self.view_is

pub returns : goal.returns
returns c =
    let x = c.index-as_slice-place.result in
    ap (λ (y : Var). Some y) (c.index-as_slice-place.is ∙ ap (λ (l : List Var). get_or l c.in-Some.place x) c.as_slice.ensures)
    ∙ sym (var_found c.self.invariant.index c.args.name.now c.in-Some.ensures.place c.in-Some.ensures.found c.in-Some.ensures.within x)
    ∙ ap (var_of c.args.name.now) c.self.view_is
