use Rattle.std.proofs.Common.{◌≡◌, ◌∙◌, refl, sym, ap, ap₂, subst₂, ℕ, List, ◌∷◌, [], ◌++◌, ◌+◌, arith}
use Rattle.std.proofs.lemmas.List.{map_more, map_push}
use Rattle.solve_defs.specs.Bounds.{Bounds}
use Rattle.solve_defs.specs.StandardForm.{Shape, shape_between, width}
use Rattle.std_form.specs.Columns.{AreInOrder, shapes_in}
use Rattle.std_form.specs.Shapes.{shape_of}
use Rattle.std_form.specs.declared.columns.Placed.{Placed}
use Rattle.std_form.proofs.Places.{in_order-push}
use Rattle.solve_defs.proofs.FormSizes.{width_le}
use Rattle.std_form.proofs.columns.Columns.of.Goals as goal

pub loop-own-preserved : goal.loop-own-preserved
loop-own-preserved c =
    let next : Placed = record { shape = c.between-shape.result; column = c.loop-own.count } in
    let made : Bounds → Shape = λ b. shape_between b.lower b.upper in
    let width_is : c.width-count.result ≡ width (shape_of c.between-shape.result) = c.width-count.ensures in
    record {
      shapes =
          ap shapes_in c.in_ok-push.ensures.items ∙ map_push (λ (p : Placed). shape_of p.shape) c.loop-own.placed.items next
          ∙ ap₂ (λ (shapes : List Shape) (shape : Shape). shapes ++ shape ∷ []) c.loop-own.invariant.shapes
          (c.between-shape.ensures ∙ ap made c.own-item.is)
          ∙ sym (map_more made c.deref-own-items.result.now c.loop-own.own-index c.own-item.result c.loop-own-test.true);
      in_order =
          subst₂ (λ (placed : List Placed) (n : ℕ). AreInOrder 0 placed (c.loop-own.count + n)) (sym c.in_ok-push.ensures.items) (sym width_is)
          (in_order-push 0 c.loop-own.placed.items c.loop-own.count next c.loop-own.invariant.in_order refl);
      bound = omega (arith, c.loop-own.invariant.bound, width_is, width_le (shape_of c.between-shape.result));
    }
