use Rattle.std.proofs.Common.{sym, ◌∙◌, ap, List, get_or, Some}
use Rattle.model_data.specs.declared.model.Row.{Row}
use Rattle.model_core.specs.Look.{row_of}
use Rattle.model_core.proofs.Found.{row_found, row_missing}
use Rattle.model_core.proofs.indexed.IndexedModel.row.Goals as goal

pub returns-in_default : goal.returns-in_default
returns-in_default c =
    sym (row_missing c.self.invariant.index c.args.name.now c.in_default.ensures.found) ∙ ap (row_of c.args.name.now) c.self.view_is

pub returns : goal.returns
returns c =
    let x = c.index-as_slice-place.result in
    ap (λ (y : Row). Some y) (c.index-as_slice-place.is ∙ ap (λ (l : List Row). get_or l c.in-Some.place x) c.as_slice.ensures)
    ∙ sym (row_found c.self.invariant.index c.args.name.now c.in-Some.ensures.place c.in-Some.ensures.found c.in-Some.ensures.within x)
    ∙ ap (row_of c.args.name.now) c.self.view_is
