use Rattle.std.proofs.Common.{◌≡◌, ◌++◌, drop, take}
use Rattle.solve_defs.specs.StandardForm.{column_count, low_weights}
use Rattle.std_form.proofs.columns.Columns.low_weights.Given as goal

abbrev pub invariant-loop-placed : goal.invariant-loop-placed
invariant-loop-placed l =
    l.lows.items ++ low_weights (column_count (take l.placed-index l.self)) (drop l.placed-index l.self) l.reduced ≡ low_weights 0 l.self l.reduced
