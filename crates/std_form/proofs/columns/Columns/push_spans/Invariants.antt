use Rattle.std.proofs.Common.{◌≡◌}
use Rattle.solve_defs.specs.StandardForm.{column_count, span_rows}
use Rattle.std_form.specs.Outcome.{behind}
use Rattle.std_form.proofs.Steps.{spans_left}
use Rattle.std_form.proofs.columns.Columns.push_spans.Given as goal

abbrev pub invariant-loop-placed : goal.invariant-loop-placed
invariant-loop-placed l =
    behind l.rows.items (spans_left l.self l.placed-index) ≡ behind l.initial.rows.items (span_rows (column_count l.self) 0 l.self)
