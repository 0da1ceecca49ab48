use Rattle.std.proofs.Common.{◌≡◌, drop}
use Rattle.dictionary.specs.Dictionary.{each}
use Rattle.solve_defs.specs.StandardForm.{rows_of}
use Rattle.std_form.specs.Outcome.{behind, joined}
use Rattle.std_form.proofs.standard.push_rows.Given as goal

abbrev pub invariant-loop-row : goal.invariant-loop-row
invariant-loop-row l =
    behind l.rows.items (joined (each (rows_of l.columns) (drop l.row-index l.model_rows)))
    ≡ behind l.initial.rows.items (joined (each (rows_of l.columns) l.model_rows))
