use Rattle.std.proofs.Common.{◌≡◌, ◌∙◌, refl, sym, ap, ap₂, ℕ, List, [], ◌∷◌, ◌++◌, length, ◌+◌, ◌<◌, ◌≤◌, drop, get_or, take, arith, rules}
use Rattle.std.proofs.lemmas.List.{length-map}
use Rattle.frac128.specs.Fraction.{Fraction}
use Rattle.solve_defs.specs.StandardForm.{column_count, up_weight, up_weights}
use Rattle.solve_defs.specs.Values.{value_at}
use Rattle.std_form.specs.Shapes.{shape_of}
use Rattle.std_form.proofs.Places.{Stands, stands}
use Rattle.std_form.proofs.Weighed.{ends_with, ups-step}
use Rattle.std_form.proofs.columns.Columns.up_weights.Goals as goal

pub loop-placed-preserved : goal.loop-placed-preserved
loop-placed-preserved c =
    let i = c.loop-placed.placed-index in
    let place = c.loop-placed.place in
    let shapes = c.args.self.now in
    let p = c.placed-item.result in
    let within : i < length c.self.inside.placed.items = search rules in
    let own : p ≡ get_or c.self.inside.placed.items i p = search rules in
    let here : Stands shapes i p = stands _ _ _ i _ c.self.view_is c.self.invariant within own in
    let done = c.loop-placed.ups.items in
    let left : ℕ → List Fraction = λ n. up_weights n (column_count (take (i + 1) shapes)) (drop (i + 1) shapes) c.args.ys.now c.args.reduced.now in
    let bound = c.spans-place.ensures.bound in
    let read : c.up_weight.result ≡ up_weight (shape_of p.shape) (value_at c.args.reduced.now p.column) (value_at c.args.ys.now place) =
    c.up_weight.ensures ∙ ap (up_weight (shape_of p.shape) (value_at c.args.reduced.now p.column)) c.value_at.ensures in
    record {
      weights =
          ap (λ (ups : List Fraction). ups ++ left (place + c.spans-place.result)) c.in_ok-push.ensures.items
          ∙ ap₂ (λ (x : Fraction) (n : ℕ). (done ++ x ∷ []) ++ left (place + n)) read c.spans-place.ensures.value
          ∙ sym (ups-step shapes c.args.ys.now c.args.reduced.now done place i p here) ∙ c.loop-placed.invariant.weights;
      bound = omega (arith, c.loop-placed.invariant.bound, bound);
    }

pub returns : goal.returns
returns c =
    let i = c.loop-placed.placed-index in
    let shapes = c.args.self.now in
    let sizes : length c.self.inside.placed.items ≡ length shapes = sym (length-map c.self.inside.placed.items (λ p. shape_of p.shape)) ∙ ap length c.self.view_is in
    let past : length c.self.inside.placed.items ≤ i = search rules in
    ends_with (λ left. up_weights c.loop-placed.place (column_count (take i shapes)) left c.args.ys.now c.args.reduced.now) shapes i c.loop-placed.ups.items _ refl (omega (arith, sizes, past))
    c.loop-placed.invariant.weights
