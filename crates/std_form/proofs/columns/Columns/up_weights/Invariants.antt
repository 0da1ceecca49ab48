use Rattle.std.proofs.Common.{◌≡◌, ◌≤◌, ◌+◌, ◌++◌, drop, take}
use Rattle.solve_defs.specs.StandardForm.{column_count, up_weights}
use Rattle.std_form.proofs.columns.Columns.up_weights.Given as goal

abbrev pub invariant-loop-placed : goal.invariant-loop-placed
invariant-loop-placed l = record {
  weights : l.ups.items ++ up_weights l.place (column_count (take l.placed-index l.self)) (drop l.placed-index l.self) l.ys l.reduced
      ≡ up_weights l.first 0 l.self l.ys l.reduced;
  bound : l.place ≤ l.first + l.placed-index;
}
