use Rattle.std.proofs.Common.{◌≡◌, ◌*◌, ◌≤◌, take, sum_by}
use Rattle.model_data.specs.Size.{rows_of_sense}
use Rattle.enough_limits.proofs.root.rows_of_rows.Given as goal

abbrev pub invariant-loop-row : goal.invariant-loop-row
invariant-loop-row l = record { value : l.count ≡ sum_by (λ r. rows_of_sense r.sense) (take l.row-index l.rows); most : l.count ≤ 2 * l.row-index }
