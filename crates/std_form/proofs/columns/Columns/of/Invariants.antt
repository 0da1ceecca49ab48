use Rattle.std.proofs.Common.{◌≡◌, ◌*◌, ◌≤◌, map, take}
use Rattle.solve_defs.specs.StandardForm.{shape_between}
use Rattle.std_form.specs.Columns.{AreInOrder, shapes_in}
use Rattle.std_form.proofs.columns.Columns.of.Given as goal

abbrev pub invariant-loop-own : goal.invariant-loop-own
invariant-loop-own l = record {
  shapes : shapes_in l.placed.items ≡ map (λ b. shape_between b.lower b.upper) (take l.own-index l.own-items);
  in_order : AreInOrder 0 l.placed.items l.count;
  bound : l.count ≤ 2 * l.own-index;
}
