use Rattle.std.proofs.Common.{◌≡◌, ◌≤◌, ◌*◌, drop}
use Rattle.solve_defs.specs.StandardForm.{row_weights}
use Rattle.std_form.specs.Outcome.{behind}
use Rattle.std_form.proofs.weights.row_weights.Given as goal

abbrev pub invariant-loop-row : goal.invariant-loop-row
invariant-loop-row l = record {
  weights : behind l.weights.items (row_weights l.place (drop l.row-index l.rows) l.ys) ≡ row_weights 0 l.rows l.ys;
  bound : l.place ≤ 2 * l.row-index;
}
