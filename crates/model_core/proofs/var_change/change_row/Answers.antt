use Rattle.std.proofs.Common.{◌≡◌, refl, sym, ◌∙◌, ap, subst, false, length, Ok}
use Rattle.model_data.specs.declared.model.Row.{Row}
use Rattle.model_core.specs.Effect.{on_row}
use Rattle.model_core.specs.Field.{with_row_field}
use Rattle.model_core.specs.Indexed.{IsIndexOf}
use Rattle.model_core.specs.declared.fields.RowField.{RowField}
use Rattle.model_core.specs.declared.fields.RowField.TheVariants.{Rhs, Sense}
use Rattle.model_core.proofs.Judged.{answer-name, answer-ok}
use Rattle.model_core.proofs.Known.{known_row, row_written}
use Rattle.model_core.proofs.OneField.{on_row-index, on_row-within}
use Rattle.model_core.proofs.var_change.change_row.Goals as goal

keeps_name : (field : RowField) (x : Row) → (with_row_field field x).name ≡ x.name
keeps_name (Rhs _) x = refl
keeps_name (Sense _) x = refl

keeps_count : (field : RowField) (x : Row) → length (with_row_field field x).terms ≡ length x.terms
keeps_count (Rhs _) x = refl
keeps_count (Sense _) x = refl

pub returns-in_default-clause-refused : goal.returns-in_default-clause-refused
returns-in_default-clause-refused c =
    answer-name _ false (on_row c.args.name.now (with_row_field c.args.field) c.args.model.now)
    (known_row c.requires.index c.args.name.now ∙ sym c.in_default.ensures.found)

pub returns-clause-ok : goal.returns-clause-ok
returns-clause-ok c =
    let change = with_row_field c.args.field in
    let written = row_written c.requires.index c.args.name.now c.requires.lawful c.in-Some.ensures.place c.in-Some.ensures.found change in
    answer-ok _ false (on_row c.args.name.now change c.args.model.now)
    (known_row c.requires.index c.args.name.now ∙ sym c.in-Some.ensures.found) refl
    (on_row-within c.args.name.now change c.args.model.now (keeps_count c.args.field) c.requires.lawful)
    ∙ ap Ok (sym (c.put_row_field.ensures ∙ written))

pub returns-clause-index : goal.returns-clause-index
returns-clause-index c =
    let change = with_row_field c.args.field in
    let written = row_written c.requires.index c.args.name.now c.requires.lawful c.in-Some.ensures.place c.in-Some.ensures.found change in
    subst (IsIndexOf c.args.tables.now) (sym (c.put_row_field.ensures ∙ written))
    (on_row-index c.args.name.now change c.args.model.now (keeps_count c.args.field) c.args.tables.now c.requires.index (keeps_name c.args.field))
