use Rattle.std.proofs.Common.{◌≡◌, ◌∙◌, sym, ap, ap₂, List, [], length, sum_by, Ok, arith, rules}
use Rattle.frac128.specs.Fraction.{Fraction}
use Rattle.model_data.specs.Size.{rows_of_sense}
use Rattle.model_data.specs.declared.model.Row.{Row}
use Rattle.solve_defs.specs.StandardForm.{Shape, low_weights, numbered, row_weights, shapes_of, up_weights, weights_back}
use Rattle.std_form.specs.Outcome.{Meets}
use Rattle.std_form.proofs.Exits.{told_fault}
use Rattle.std_form.proofs.Forms.{as_many}
use Rattle.std_form.proofs.Weighed.{length-lows, length-rows, length-ups, met, weights_made, weights_refused}
use Rattle.std_form.proofs.weights.dual_back.Goals as goal

pub returns-in_err-rows-clause-fault : goal.returns-in_err-rows-clause-fault
returns-in_err-rows-clause-fault c wide is =
    let refused : Meets {B = List Fraction} c.from_residual-in_err-rows.result (λ _. []) (row_weights 0 c.args.m.now.rows c.args.ys.now.items) = search rules in
    weights_refused c.args.m.now (shapes_of c.args.m.now c.args.cuts.now.items) c.args.ys.now.items c.args.reduced.now.items wide (told_fault _ _ _ refused wide is)

pub up_weights-requires-clause-count : goal.up_weights-requires-clause-count
up_weights-requires-clause-count c =
    let are : c.in_ok-columns.columns ≡ shapes_of c.args.m.now c.args.cuts.now.items = c.in_ok-columns.ensures ∙ ap (shapes_of c.args.m.now) c.as_slice.ensures.value in
    let many = as_many c.args.m.now c.args.cuts.now.items c.in_ok-columns.columns are in omega (arith, many, c.requires.lawful.var_limit)

pub numbered-requires : goal.numbered-requires
numbered-requires c =
    let value : c.row_weights.result ≡ Ok c.in_ok-rows.rows = search rules in
    let made : row_weights 0 c.args.m.now.rows c.args.ys.now.items ≡ Ok c.in_ok-rows.rows.items =
    met c.row_weights.result c.in_ok-rows.rows (λ w. w.items) _ (row_weights 0 c.as_slice-2.result.now c.as_slice-3.result.now) value
    (ap₂ (row_weights 0) (sym c.as_slice-2.ensures) (sym c.as_slice-3.ensures.value)) c.row_weights.ensures in
    let size = length-rows 0 c.args.m.now.rows c.args.ys.now.items c.in_ok-rows.rows.items made in
    let same = ap length c.as_slice-8.ensures.value in omega (arith, size, same, c.requires.lawful.row_limit)

pub numbered-requires-2 : goal.numbered-requires-2
numbered-requires-2 c =
    let shapes : List Shape = c.in_ok-columns.columns in
    let are : shapes ≡ shapes_of c.args.m.now c.args.cuts.now.items = c.in_ok-columns.ensures ∙ ap (shapes_of c.args.m.now) c.as_slice.ensures.value in
    let many = as_many c.args.m.now c.args.cuts.now.items shapes are in
    let lows : c.in_ok-lows.lows.items ≡ low_weights 0 shapes c.as_slice-4.result.now = c.in_ok-lows.ensures in
    let size = ap length lows ∙ length-lows 0 shapes c.as_slice-4.result.now in
    let same = ap length c.as_slice-9.ensures.value in omega (arith, many, size, same, c.requires.lawful.var_limit)

pub numbered-requires-3 : goal.numbered-requires-3
numbered-requires-3 c =
    let shapes : List Shape = c.in_ok-columns.columns in
    let are : shapes ≡ shapes_of c.args.m.now c.args.cuts.now.items = c.in_ok-columns.ensures ∙ ap (shapes_of c.args.m.now) c.as_slice.ensures.value in
    let many = as_many c.args.m.now c.args.cuts.now.items shapes are in
    let ups : c.in_ok-ups.ups.items ≡ up_weights c.rows_of_all-first.result 0 shapes c.as_slice-6.result.now c.as_slice-7.result.now = c.in_ok-ups.ensures in
    let size = ap length ups ∙ length-ups c.rows_of_all-first.result 0 shapes c.as_slice-6.result.now c.as_slice-7.result.now in
    let same = ap length c.as_slice-10.ensures.value in omega (arith, many, size, same, c.requires.lawful.var_limit)

pub returns-clause-ok : goal.returns-clause-ok
returns-clause-ok c =
    let ys = c.args.ys.now.items in
    let reduced = c.args.reduced.now.items in
    let shapes : List Shape = c.in_ok-columns.columns in
    let first = c.rows_of_all-first.result in
    let are : shapes ≡ shapes_of c.args.m.now c.args.cuts.now.items = c.in_ok-columns.ensures ∙ ap (shapes_of c.args.m.now) c.as_slice.ensures.value in
    let value : c.row_weights.result ≡ Ok c.in_ok-rows.rows = search rules in
    let made : row_weights 0 c.args.m.now.rows ys ≡ Ok c.in_ok-rows.rows.items =
    met c.row_weights.result c.in_ok-rows.rows (λ w. w.items) _ (row_weights 0 c.as_slice-2.result.now c.as_slice-3.result.now) value
    (ap₂ (row_weights 0) (sym c.as_slice-2.ensures) (sym c.as_slice-3.ensures.value)) c.row_weights.ensures in
    let first_is : first ≡ sum_by (λ row. rows_of_sense row.sense) c.args.m.now.rows =
    c.rows_of_all-first.ensures.value ∙ ap (sum_by (λ (row : Row). rows_of_sense row.sense)) c.as_slice-5.ensures in
    let lows : c.in_ok-lows.lows.items ≡ low_weights 0 shapes reduced = c.in_ok-lows.ensures ∙ ap (low_weights 0 shapes) c.as_slice-4.ensures.value in
    let ups : c.in_ok-ups.ups.items ≡ up_weights first 0 shapes ys reduced =
    c.in_ok-ups.ensures ∙ ap₂ (up_weights first 0 shapes) c.as_slice-6.ensures.value c.as_slice-7.ensures.value in
    let rows_are : c.of-2.result ≡ numbered 1 c.in_ok-rows.rows.items = c.of-2.ensures ∙ c.in_ok-rows-2.ensures ∙ ap (numbered 1) c.as_slice-8.ensures.value in
    let lows_are : c.of-3.result ≡ numbered 1 (low_weights 0 shapes reduced) =
    c.of-3.ensures ∙ c.in_ok-lows-2.ensures ∙ ap (numbered 1) (c.as_slice-9.ensures.value ∙ lows) in
    let ups_are : c.of-4.result ≡ numbered 1 (up_weights first 0 shapes ys reduced) =
    c.of-4.ensures ∙ c.in_ok-ups-2.ensures ∙ ap (numbered 1) (c.as_slice-10.ensures.value ∙ ups) in
    ap (λ s. weights_back c.args.m.now s ys reduced) (sym are)
    ∙ weights_made c.args.m.now shapes ys reduced c.in_ok-rows.rows.items first c.of-2.result c.of-3.result c.of-4.result made first_is rows_are lows_are ups_are
