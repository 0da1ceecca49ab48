use Rattle.std.proofs.Common.{◌≡◌, length}
use Rattle.solve_defs.specs.StandardForm.{entries}
use Rattle.std_form.proofs.Entries.{filled}
use Rattle.std_form.proofs.columns.Columns.objective.Given as goal

abbrev pub invariant-loop-place : goal.invariant-loop-place
invariant-loop-place l = l.obj.items ≡ entries l.self (filled l.m.direction l.m.vars l.place (length l.self))
