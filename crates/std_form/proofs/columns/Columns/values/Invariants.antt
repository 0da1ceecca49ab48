use Rattle.std.proofs.Common.{◌≡◌}
use Rattle.solve_defs.specs.StandardForm.{values_from}
use Rattle.std_form.specs.Ways.{value_by}
use Rattle.std_form.specs.Outcome.{behind}
use Rattle.std_form.proofs.Steps.{values_left}
use Rattle.std_form.proofs.columns.Columns.values.Given as goal

abbrev pub invariant-loop-placed : goal.invariant-loop-placed
invariant-loop-placed l = behind l.values.items (values_left (value_by l.way) l.self l.xs l.placed-index) ≡ values_from (value_by l.way) 0 l.self l.xs
