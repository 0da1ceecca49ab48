use Rattle.std.proofs.Common.{◌<◌, ◌≡◌, refl, sym, ◌∙◌, ap, subst, arith, ℕ, List, length, false, Ok, filter, not}
use Rattle.std.specs.List.{remove}
use Rattle.std.proofs.lemmas.List.Edits.{length-remove}
use Rattle.std.proofs.lemmas.List.Sums.{sum_by-remove}
use Rattle.model_data.specs.declared.model.Model.{Model}
use Rattle.model_data.specs.declared.model.Row.{Row}
use Rattle.model_core.specs.Named.{is_row}
use Rattle.model_core.specs.One.{is_too_large}
use Rattle.model_core.proofs.ByName.{removed_at}
use Rattle.model_core.proofs.Judged.{answer-name, answer-ok, within}
use Rattle.model_core.proofs.Known.{known_row, place_of_row, row_within}
use Rattle.model_core.proofs.Mapped.{map-remove}
use Rattle.model_core.proofs.deletion.delete_row.Goals as goal

with_rows : Model → List Row → Model
with_rows m rows = record m { rows = rows }

pub returns-in_default-clause-refused : goal.returns-in_default-clause-refused
returns-in_default-clause-refused c =
    answer-name _ false (record c.args.model.now { rows = filter (λ r. not (is_row c.args.name.now r)) c.args.model.now.rows })
    (known_row c.requires.index c.args.name.now ∙ sym c.in_default.ensures.found)

pub returns-clause-ok : goal.returns-clause-ok
unfolding with_rows
returns-clause-ok c =
    let m = c.args.model.now in
    let place = c.in-Some.place in
    let known = known_row c.requires.index c.args.name.now ∙ sym c.in-Some.ensures.found in
    let found = place_of_row c.requires.index c.args.name.now ∙ sym c.in-Some.ensures.place in
    let removed = removed_at (λ (r : Row). r.name) c.args.name.now m.rows place c.requires.lawful.row_names found known in
    let inside : place < length m.rows = row_within c.requires.index c.args.name.now c.in-Some.ensures.within in
    let fewer = length-remove m.rows place inside in
    let less = sum_by-remove (λ (r : Row). length r.terms) m.rows place c.remove_row-row.result inside in
    let rows_few = c.requires.lawful.row_limit in
    let terms_few = c.requires.lawful.term_limit in
    let small = within (with_rows m (remove m.rows place)) c.requires.lawful.var_limit (omega (arith, fewer, rows_few)) (omega (arith, less, terms_few)) in
    answer-ok _ false (with_rows m (filter (λ r. not (is_row c.args.name.now r)) m.rows)) known refl
    (subst (λ (rows : List Row). is_too_large (with_rows m rows) ≡ false) removed small)
    ∙ ap Ok (sym (c.remove_row-row.ensures.model ∙ ap (with_rows m) removed))

pub returns-clause-index : goal.returns-clause-index
returns-clause-index c =
    let m = c.args.model.now in
    let place = c.in-Some.place in
    let inside : place < length m.rows = row_within c.requires.index c.args.name.now c.in-Some.ensures.within in
    let less = sum_by-remove (λ (r : Row). length r.terms) m.rows place c.remove_row-row.result inside in
    let row = ap (λ (r : Row). length r.terms) c.remove_row-row.ensures.row in
    let counted = c.requires.index.terms in
    let len = c.len.ensures in
    rw c.remove_row-row.ensures.model (record {
      vars = c.requires.index.vars;
      rows = c.remove_at.ensures ∙ ap (λ (l : List (List ℕ)). remove l place) c.requires.index.rows ∙ sym (map-remove (λ (r : Row). r.name) m.rows place);
      tags = c.requires.index.tags;
      terms = omega (arith, less, row, counted, len);
    })
