use Rattle.std.proofs.Common.{◌≡◌, ◌∙◌, refl, sym, ap, List, [], ◌∷◌, ◌++◌, length, ◌+◌, ◌<◌, ◌≤◌, drop, get_or, take, arith, rules}
use Rattle.std.proofs.lemmas.List.{length-map}
use Rattle.frac128.specs.Fraction.{Fraction}
use Rattle.solve_defs.specs.StandardForm.{column_count, low_weights}
use Rattle.std_form.specs.Shapes.{shape_of}
use Rattle.std_form.proofs.Places.{Stands, stands}
use Rattle.std_form.proofs.Weighed.{ends_with, lows-step}
use Rattle.std_form.proofs.columns.Columns.low_weights.Goals as goal

pub loop-placed-preserved : goal.loop-placed-preserved
loop-placed-preserved c =
    let place = c.loop-placed.placed-index in
    let shapes = c.args.self.now in
    let within : place < length c.self.inside.placed.items = search rules in
    let own : c.placed-item.result ≡ get_or c.self.inside.placed.items place c.placed-item.result = search rules in
    let here : Stands shapes place c.placed-item.result = stands _ _ _ place _ c.self.view_is c.self.invariant within own in
    let done = c.loop-placed.lows.items in
    let left = low_weights (column_count (take (place + 1) shapes)) (drop (place + 1) shapes) c.args.reduced.now in
    ap (λ (lows : List Fraction). lows ++ left) c.in_ok-push.ensures.items
    ∙ ap (λ (x : Fraction). (done ++ x ∷ []) ++ left) c.low_weight.ensures
    ∙ sym (lows-step shapes c.args.reduced.now done place c.placed-item.result here) ∙ c.loop-placed.invariant

pub returns : goal.returns
returns c =
    let place = c.loop-placed.placed-index in
    let shapes = c.args.self.now in
    let sizes : length c.self.inside.placed.items ≡ length shapes = sym (length-map c.self.inside.placed.items (λ p. shape_of p.shape)) ∙ ap length c.self.view_is in
    let past : length c.self.inside.placed.items ≤ place = search rules in
    ends_with (λ left. low_weights (column_count (take place shapes)) left c.args.reduced.now) shapes place c.loop-placed.lows.items _ refl (omega (arith, sizes, past)) c.loop-placed.invariant
