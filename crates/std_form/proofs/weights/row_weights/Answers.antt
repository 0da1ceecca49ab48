use Rattle.std.proofs.Common.{◌≡◌, ◌∙◌, sym, ap, ℕ, List, [], ◌∷◌, ◌++◌, ◌+◌, drop, Result, Ok, arith, rules}
use Rattle.frac128.specs.Checked.{◌>>=◌}
use Rattle.frac128.specs.Fraction.{Fraction, zero_value}
use Rattle.frac128.specs.declared.operations.Wide.{Wide}
use Rattle.model_data.specs.Size.{rows_of_sense}
use Rattle.solve_defs.specs.StandardForm.{row_weights}
use Rattle.std_form.specs.Outcome.{Meets, behind}
use Rattle.std_form.proofs.Exits.{exit}
use Rattle.std_form.proofs.Weighed.{row-step}
use Rattle.std_form.proofs.weights.row_weights.Goals as goal

pub returns-in_err-map_err : goal.returns-in_err-map_err
returns-in_err-map_err c =
    let i = c.loop-row.row-index in
    let done = c.loop-row.weights.items in
    let place = c.loop-row.place in
    let row = c.row-item.result in
    let left = row_weights (place + rows_of_sense row.sense) (drop (i + 1) c.args.rows.now) c.args.ys.now in
    let refused : Meets {B = Fraction} c.from_residual-in_err-map_err.result (λ _. zero_value) c.row_weight.result = search rules in
    exit _ _ _ _ _ c.from_residual-in_err-map_err.ensures.0 refused
    (λ e is. sym c.loop-row.invariant.weights ∙ row-step c.args.rows.now c.args.ys.now done place i row c.loop-row-test.true c.row-item.is
    ∙ ap (λ (value : Result Fraction Wide). ◌>>=◌ value (λ x. behind (done ++ x ∷ []) left)) (sym c.row_weight.ensures ∙ is))

pub loop-row-preserved : goal.loop-row-preserved
loop-row-preserved c =
    let i = c.loop-row.row-index in
    let done = c.loop-row.weights.items in
    let place = c.loop-row.place in
    let row = c.row-item.result in
    let ahead = row_weights (place + rows_of_sense row.sense) (drop (i + 1) c.args.rows.now) c.args.ys.now in
    let left = row_weights (place + c.rows_of_sense.result) (drop (i + 1) c.args.rows.now) c.args.ys.now in
    let value : c.row_weight.result ≡ Ok c.in_ok-map_err.field-0 = search rules in
    let next = ap (λ (n : ℕ). row_weights (place + n) (drop (i + 1) c.args.rows.now) c.args.ys.now) c.rows_of_sense.ensures.value in
    let bound = c.rows_of_sense.ensures.bound in
    record {
      weights =
          ap (λ (weights : List Fraction). behind weights left) c.in_ok-push.ensures.items
          ∙ ap (behind (done ++ c.in_ok-map_err.field-0 ∷ [])) next
          ∙ sym (ap (λ (own : Result Fraction Wide). ◌>>=◌ own (λ x. behind (done ++ x ∷ []) ahead)) (sym c.row_weight.ensures ∙ value))
          ∙ sym (row-step c.args.rows.now c.args.ys.now done place i row c.loop-row-test.true c.row-item.is) ∙ c.loop-row.invariant.weights;
      bound = omega (arith, c.loop-row.invariant.bound, bound);
    }
