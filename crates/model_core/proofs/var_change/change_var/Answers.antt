use Rattle.std.proofs.Common.{◌≡◌, refl, sym, ◌∙◌, ap, subst, false, Ok}
use Rattle.model_data.specs.declared.model.Var.{Var}
use Rattle.model_core.specs.Effect.{on_var}
use Rattle.model_core.specs.Field.{with_var_field}
use Rattle.model_core.specs.Indexed.{IsIndexOf}
use Rattle.model_core.specs.declared.fields.VarField.{VarField}
use Rattle.model_core.specs.declared.fields.VarField.TheVariants.{Lower, Upper, Objective, Kind}
use Rattle.model_core.proofs.Judged.{answer-name, answer-ok}
use Rattle.model_core.proofs.Known.{known_var, var_written}
use Rattle.model_core.proofs.OneField.{on_var-index, on_var-within}
use Rattle.model_core.proofs.var_change.change_var.Goals as goal

keeps_name : (field : VarField) (x : Var) → (with_var_field field x).name ≡ x.name
keeps_name (Lower _) x = refl
keeps_name (Upper _) x = refl
keeps_name (Objective _) x = refl
keeps_name (Kind _) x = refl

keeps_tag : (field : VarField) (x : Var) → (with_var_field field x).tag ≡ x.tag
keeps_tag (Lower _) x = refl
keeps_tag (Upper _) x = refl
keeps_tag (Objective _) x = refl
keeps_tag (Kind _) x = refl

pub returns-in_default-clause-refused : goal.returns-in_default-clause-refused
returns-in_default-clause-refused c =
    answer-name _ false (on_var c.args.name.now (with_var_field c.args.field) c.args.model.now)
    (known_var c.requires.index c.args.name.now ∙ sym c.in_default.ensures.found)

pub returns-clause-ok : goal.returns-clause-ok
returns-clause-ok c =
    let change = with_var_field c.args.field in
    let written = var_written c.requires.index c.args.name.now c.requires.lawful c.in-Some.ensures.place c.in-Some.ensures.found change in
    answer-ok _ false (on_var c.args.name.now change c.args.model.now)
    (known_var c.requires.index c.args.name.now ∙ sym c.in-Some.ensures.found) refl
    (on_var-within c.args.name.now change c.args.model.now c.requires.lawful)
    ∙ ap Ok (sym (c.put_var_field.ensures ∙ written))

pub returns-clause-index : goal.returns-clause-index
returns-clause-index c =
    let change = with_var_field c.args.field in
    let written = var_written c.requires.index c.args.name.now c.requires.lawful c.in-Some.ensures.place c.in-Some.ensures.found change in
    subst (IsIndexOf c.args.tables.now) (sym (c.put_var_field.ensures ∙ written))
    (on_var-index c.args.name.now change c.args.model.now c.args.tables.now c.requires.index (keeps_name c.args.field) (keeps_tag c.args.field))
