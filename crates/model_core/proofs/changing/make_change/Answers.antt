use Rattle.std.proofs.Common.{sym, ◌∙◌, ap, ap₂, ℕ, List, false, not, ◌&&◌, filter, Result, Ok}
use Rattle.std.specs.List.{list_any}
use Rattle.base_names.specs.declared.refusal.Refusal.{Refusal}
use Rattle.frac128.specs.Fraction.{Fraction}
use Rattle.model_data.specs.declared.model.Model.{Model}
use Rattle.model_data.specs.declared.model.Sense.{Sense}
use Rattle.model_core.specs.Effect.{in_row, on_row, on_var, with_coefficient, without_var}
use Rattle.model_core.specs.Field.{with_row_field, with_tag}
use Rattle.model_core.specs.Named.{has_tag, is_row, is_var, knows_row, knows_var, var_place}
use Rattle.model_core.specs.One.{answer, one}
use Rattle.model_core.specs.declared.fields.RowField.TheVariants.{Rhs, Sense as row_sense}
use Rattle.model_core.proofs.Retold.{ok_as, refused_as, refused_or_as}
use Rattle.model_core.proofs.changing.make_change.Goals as goal

abbrev coefficient_answer : Model → (row var : List ℕ) → Fraction → Result Model Refusal
coefficient_answer m row var x = answer (knows_row row m && knows_var var m) false (on_row row (in_row (with_coefficient (var_place var m) x)) m)

abbrev rhs_answer : Model → List ℕ → Fraction → Result Model Refusal
rhs_answer m name x = answer (knows_row name m) false (on_row name (with_row_field (Rhs x)) m)

abbrev sense_answer : Model → List ℕ → Sense → Result Model Refusal
sense_answer m name sense = answer (knows_row name m) false (on_row name (with_row_field (row_sense sense)) m)

abbrev tag_answer : Model → (name tag : List ℕ) → Result Model Refusal
tag_answer m name tag = answer (knows_var name m) (list_any (λ v. has_tag tag v && not (is_var name v)) m.vars) (on_var name (with_tag tag) m)

abbrev var_answer : Model → List ℕ → Result Model Refusal
var_answer m name = answer (knows_var name m) false (without_var name m)

abbrev row_answer : Model → List ℕ → Result Model Refusal
row_answer m name = answer (knows_row name m) false (record m { rows = filter (λ r. not (is_row name r)) m.rows })

pub returns-in-ChgCoeff-clause-ok : goal.returns-in-ChgCoeff-clause-ok
returns-in-ChgCoeff-clause-ok c =
    let m = c.args.model.now in
    ok_as c.change_coefficient.result (coefficient_answer m c.as_bytes.result.now c.as_bytes-in-ChgCoeff.result.now c.in-ChgCoeff.coef) (one m c.args.change.now) (Ok c.change_coefficient.new.model)
    (ap₂ (λ (row var : List ℕ). coefficient_answer m row var c.in-ChgCoeff.coef) c.as_bytes.ensures c.as_bytes-in-ChgCoeff.ensures ∙ ap (one m) (sym c.in-ChgCoeff.is)) c.change_coefficient.ensures.ok

pub returns-in-ChgCoeff-clause-refused : goal.returns-in-ChgCoeff-clause-refused
returns-in-ChgCoeff-clause-refused c =
    let m = c.args.model.now in
    refused_or_as c.change_coefficient.result (coefficient_answer m c.as_bytes.result.now c.as_bytes-in-ChgCoeff.result.now c.in-ChgCoeff.coef) (one m c.args.change.now)
    (ap₂ (λ (row var : List ℕ). coefficient_answer m row var c.in-ChgCoeff.coef) c.as_bytes.ensures c.as_bytes-in-ChgCoeff.ensures ∙ ap (one m) (sym c.in-ChgCoeff.is)) c.change_coefficient.ensures.refused

pub returns-in-SetRhs-clause-refused : goal.returns-in-SetRhs-clause-refused
returns-in-SetRhs-clause-refused c =
    let m = c.args.model.now in
    refused_as c.change_row.result (rhs_answer m c.as_bytes-in-SetRhs.result.now c.in-SetRhs.rhs) (one m c.args.change.now)
    (ap (λ (n : List ℕ). rhs_answer m n c.in-SetRhs.rhs) c.as_bytes-in-SetRhs.ensures ∙ ap (one m) (sym c.in-SetRhs.is)) c.change_row.ensures.refused

pub returns-in-SetSense-clause-refused : goal.returns-in-SetSense-clause-refused
returns-in-SetSense-clause-refused c =
    let m = c.args.model.now in
    refused_as c.change_row-in-SetSense.result (sense_answer m c.as_bytes-in-SetSense.result.now c.in-SetSense.sense) (one m c.args.change.now)
    (ap (λ (n : List ℕ). sense_answer m n c.in-SetSense.sense) c.as_bytes-in-SetSense.ensures ∙ ap (one m) (sym c.in-SetSense.is)) c.change_row-in-SetSense.ensures.refused

pub returns-in-SetTag-clause-refused : goal.returns-in-SetTag-clause-refused
returns-in-SetTag-clause-refused c =
    let m = c.args.model.now in
    refused_or_as c.give_tag.result (tag_answer m c.as_bytes-in-SetTag.result.now c.in-SetTag.tag) (one m c.args.change.now)
    (ap (λ (n : List ℕ). tag_answer m n c.in-SetTag.tag) c.as_bytes-in-SetTag.ensures ∙ ap (one m) (sym c.in-SetTag.is)) c.give_tag.ensures.refused

pub returns-in-DelVar-clause-ok : goal.returns-in-DelVar-clause-ok
returns-in-DelVar-clause-ok c =
    let m = c.args.model.now in
    ok_as c.delete_var.result (var_answer m c.as_bytes-in-DelVar.result.now) (one m c.args.change.now) (Ok c.delete_var.new.model)
    (ap (var_answer m) c.as_bytes-in-DelVar.ensures ∙ ap (one m) (sym c.in-DelVar.is)) c.delete_var.ensures.ok

pub returns-in-DelVar-clause-refused : goal.returns-in-DelVar-clause-refused
returns-in-DelVar-clause-refused c =
    let m = c.args.model.now in
    refused_as c.delete_var.result (var_answer m c.as_bytes-in-DelVar.result.now) (one m c.args.change.now)
    (ap (var_answer m) c.as_bytes-in-DelVar.ensures ∙ ap (one m) (sym c.in-DelVar.is)) c.delete_var.ensures.refused

pub returns-in-DelConstr-clause-refused : goal.returns-in-DelConstr-clause-refused
returns-in-DelConstr-clause-refused c =
    let m = c.args.model.now in
    refused_as c.delete_row.result (row_answer m c.as_bytes-in-DelConstr.result.now) (one m c.args.change.now)
    (ap (row_answer m) c.as_bytes-in-DelConstr.ensures ∙ ap (one m) (sym c.in-DelConstr.is)) c.delete_row.ensures.refused
