use Rattle.std.proofs.Common.{◌≡◌, ◌∙◌, sym, ap, List, [], ◌∷◌, ◌++◌, length, ◌+◌, ◌<◌, get_or, Result, Ok, arith, rules}
use Rattle.frac128.specs.Checked.{◌>>=◌}
use Rattle.frac128.specs.Fraction.{Fraction, zero_value}
use Rattle.frac128.specs.declared.operations.Wide.{Wide}
use Rattle.std_form.specs.Ways.{value_by}
use Rattle.std_form.specs.Outcome.{Meets, behind}
use Rattle.std_form.proofs.Exits.{exit}
use Rattle.std_form.proofs.Places.{Stands, stands}
use Rattle.std_form.proofs.Steps.{values-step, values_left}
use Rattle.std_form.proofs.columns.Columns.values.Goals as goal

pub value-requires : goal.value-requires
value-requires c =
    let place = c.loop-placed.placed-index in
    let within : place < length c.self.inside.placed.items = search rules in
    let own : c.placed-item.result ≡ get_or c.self.inside.placed.items place c.placed-item.result = search rules in
    let here : Stands c.args.self.now place c.placed-item.result = stands _ _ _ place _ c.self.view_is c.self.invariant within own in
    omega (arith, here.ends, c.requires)

pub returns-in_err-map_err : goal.returns-in_err-map_err
returns-in_err-map_err c =
    let place = c.loop-placed.placed-index in
    let within : place < length c.self.inside.placed.items = search rules in
    let own : c.placed-item.result ≡ get_or c.self.inside.placed.items place c.placed-item.result = search rules in
    let here : Stands c.args.self.now place c.placed-item.result = stands _ _ _ place _ c.self.view_is c.self.invariant within own in
    let done = c.loop-placed.values.items in
    let left = values_left (value_by c.args.way) c.args.self.now c.args.xs.now (place + 1) in
    let refused : Meets {B = Fraction} c.from_residual-in_err-map_err.result (λ _. zero_value) c.value.result = search rules in
    exit _ _ _ _ _ c.from_residual-in_err-map_err.ensures.0 refused
    (λ e is. sym c.loop-placed.invariant ∙ values-step (value_by c.args.way) c.args.self.now c.args.xs.now done place c.placed-item.result here
    ∙ ap (λ (value : Result Fraction Wide). ◌>>=◌ value (λ x. behind (done ++ x ∷ []) left)) (sym c.value.ensures ∙ is))

pub loop-placed-preserved : goal.loop-placed-preserved
loop-placed-preserved c =
    let place = c.loop-placed.placed-index in
    let within : place < length c.self.inside.placed.items = search rules in
    let own : c.placed-item.result ≡ get_or c.self.inside.placed.items place c.placed-item.result = search rules in
    let here : Stands c.args.self.now place c.placed-item.result = stands _ _ _ place _ c.self.view_is c.self.invariant within own in
    let done = c.loop-placed.values.items in
    let left = values_left (value_by c.args.way) c.args.self.now c.args.xs.now (place + 1) in
    let value : c.value.result ≡ Ok c.in_ok-map_err.field-0 = search rules in
    ap (λ (point : List Fraction). behind point left) c.in_ok-push.ensures.items
    ∙ sym (ap (λ (own : Result Fraction Wide). ◌>>=◌ own (λ x. behind (done ++ x ∷ []) left)) (sym c.value.ensures ∙ value))
    ∙ sym (values-step (value_by c.args.way) c.args.self.now c.args.xs.now done place c.placed-item.result here) ∙ c.loop-placed.invariant
