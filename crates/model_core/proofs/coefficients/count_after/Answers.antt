use Rattle.std.proofs.Common.{rules, ◌≡◌, ◌∙◌, sym, ap, get_or}
use Rattle.model_data.specs.declared.model.Row.{Row}
use Rattle.model_core.specs.Effect.{with_coefficient}
use Rattle.model_core.proofs.AtPlace.{counted_after}
use Rattle.model_core.proofs.coefficients.count_after.Goals as goal

pub returns : goal.returns
returns c =
    let m = c.args.model.now in
    let r = c.index-as_slice-row.result in
    let read : get_or m.rows c.args.row r ≡ r = search rules in
    counted_after m c.args.row (with_coefficient c.args.var c.args.coef.now) r c.as_slice-row_terms.result.now c.args.terms c.count_with.result
    c.requires.row read (c.as_slice-row_terms.ensures ∙ ap (λ (s : Row). s.terms) (sym c.index-as_slice-row.is)) c.requires.terms c.count_with.ensures.count
