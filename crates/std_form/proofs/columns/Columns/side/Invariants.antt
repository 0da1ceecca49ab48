use Rattle.std.proofs.Common.{◌≡◌, drop}
use Rattle.solve_defs.specs.StandardForm.{side_less}
use Rattle.std_form.proofs.columns.Columns.side.Given as goal

abbrev pub invariant-loop-term : goal.invariant-loop-term
invariant-loop-term l = side_less l.self l.side (drop l.term-index l.row.terms) ≡ side_less l.self l.row.rhs l.row.terms
