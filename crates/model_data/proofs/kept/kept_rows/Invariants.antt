use Rattle.std.specs.List.{AllWithin}
use Rattle.model_data.specs.Kept.{IsKeptRow}
use Rattle.model_data.proofs.kept.kept_rows.Given as goal

abbrev pub invariant-loop-row : goal.invariant-loop-row
invariant-loop-row l = AllWithin IsKeptRow l.rows 0 l.row-index
