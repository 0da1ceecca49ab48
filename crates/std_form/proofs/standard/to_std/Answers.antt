use Rattle.std.proofs.Common.{◌≡◌, ◌∙◌, sym, ap, List, [], map, Ok, rules}
use Rattle.frac128.specs.Fraction.{Fraction, zero_value}
use Rattle.dictionary.specs.declared.standard.StdRow.{StdRow}
use Rattle.solve_defs.specs.StandardForm.{Shape, entries, shapes_of}
use Rattle.solve_defs.specs.Values.{turned}
use Rattle.std_form.specs.Outcome.{Meets, behind, joined}
use Rattle.std_form.proofs.Exits.{told_fault}
use Rattle.std_form.proofs.Forms.{all_spans, as_many, form_made, form_without_constant, form_without_rows, form_without_spans, row_parts, standard_form-with}
use Rattle.solve_defs.proofs.FormSizes.{form-columns}
use Rattle.solve_defs.proofs.FormSizes.{form-uniform}
use Rattle.std_form.proofs.standard.to_std.Goals as goal

pub returns-in_err-push_rows-clause-fault : goal.returns-in_err-push_rows-clause-fault
returns-in_err-push_rows-clause-fault c wide is =
    let shapes : List Shape = c.in_ok-columns.columns in
    let are : shapes ≡ shapes_of c.args.m.now c.args.cuts.now.items = c.in_ok-columns.ensures ∙ ap (shapes_of c.args.m.now) c.as_slice.ensures.value in
    let parts = joined (row_parts c.args.m.now shapes) in
    let refused : Meets {B = List StdRow} c.from_residual-in_err-push_rows.result (λ _. []) (behind [] parts) = search rules in
    standard_form-with c.args.m.now c.args.cuts.now.items shapes are ∙ form_without_rows c.args.m.now shapes wide (told_fault _ _ _ refused wide is)

pub returns-in_err-push_spans-clause-fault : goal.returns-in_err-push_spans-clause-fault
returns-in_err-push_spans-clause-fault c wide is =
    let shapes : List Shape = c.in_ok-columns.columns in
    let are : shapes ≡ shapes_of c.args.m.now c.args.cuts.now.items = c.in_ok-columns.ensures ∙ ap (shapes_of c.args.m.now) c.as_slice.ensures.value in
    let first = c.push_rows.new.rows.items in
    let rows : behind [] (joined (row_parts c.args.m.now shapes)) ≡ Ok first = search rules in
    let refused : Meets {B = List StdRow} c.from_residual-in_err-push_spans.result (λ _. []) (behind first (all_spans shapes)) = search rules in
    standard_form-with c.args.m.now c.args.cuts.now.items shapes are
    ∙ form_without_spans c.args.m.now shapes first wide rows (told_fault _ _ _ refused wide is)

pub returns-in_err-constant-clause-fault : goal.returns-in_err-constant-clause-fault
returns-in_err-constant-clause-fault c wide is =
    let shapes : List Shape = c.in_ok-columns.columns in
    let are : shapes ≡ shapes_of c.args.m.now c.args.cuts.now.items = c.in_ok-columns.ensures ∙ ap (shapes_of c.args.m.now) c.as_slice.ensures.value in
    let first = c.push_rows.new.rows.items in
    let all = c.push_spans.new.rows.items in
    let rows : behind [] (joined (row_parts c.args.m.now shapes)) ≡ Ok first = search rules in
    let spans : behind first (all_spans shapes) ≡ Ok all = search rules in
    let refused : Meets {B = Fraction} c.from_residual-in_err-constant.result (λ _. zero_value) c.constant.result = search rules in
    standard_form-with c.args.m.now c.args.cuts.now.items shapes are
    ∙ form_without_constant c.args.m.now shapes first all wide rows spans (sym c.constant.ensures ∙ told_fault _ _ _ refused wide is)

pub objective-requires : goal.objective-requires
objective-requires c =
    as_many c.args.m.now c.args.cuts.now.items c.in_ok-columns.columns (c.in_ok-columns.ensures ∙ ap (shapes_of c.args.m.now) c.as_slice.ensures.value)

pub returns-clause-ok : goal.returns-clause-ok
returns-clause-ok c =
    let shapes : List Shape = c.in_ok-columns.columns in
    let are : shapes ≡ shapes_of c.args.m.now c.args.cuts.now.items = c.in_ok-columns.ensures ∙ ap (shapes_of c.args.m.now) c.as_slice.ensures.value in
    let first = c.push_rows.new.rows.items in
    let all = c.push_spans.new.rows.items in
    let rows : behind [] (joined (row_parts c.args.m.now shapes)) ≡ Ok first = search rules in
    let spans : behind first (all_spans shapes) ≡ Ok all = search rules in
    let constant : c.constant.result ≡ Ok c.in_ok-constant.constant = search rules in
    let made =
    standard_form-with c.args.m.now c.args.cuts.now.items shapes are
    ∙ form_made c.args.m.now shapes first all c.in_ok-constant.constant rows spans (sym c.constant.ensures ∙ constant) in
    let all_are : c.of-2.result ≡ c.push_spans.new.rows.items = c.of-2.ensures in
    let objs_are : c.of-3.result ≡ map (turned c.args.m.now.direction) (entries shapes (map (λ v. v.obj) c.args.m.now.vars)) = c.of-3.ensures ∙ c.in_ok-obj.ensures in
    let constant_is : c.turned.result ≡ turned c.args.m.now.direction c.in_ok-constant.constant = c.turned.ensures in
    rw (all_are, objs_are, constant_is) made

pub returns-clause-columns : goal.returns-clause-columns
returns-clause-columns c = form-columns c.args.m.now c.args.cuts.now.items _ (returns-clause-ok c)

pub returns-clause-uniform : goal.returns-clause-uniform
returns-clause-uniform c = λ lawful. form-uniform c.args.m.now c.args.cuts.now.items _ lawful (returns-clause-ok c)
