use Rattle.std.proofs.Common.{◌≡◌, ◌≤◌, ◌==◌, filter, length, take}
use Rattle.model_data.specs.declared.batch.BatchRow.{BatchRow}
use Rattle.table_defs.specs.Table.{submitted}
use Rattle.batch_table.proofs.table.BatchTable.going_on.Given as goal

abbrev pub invariant-loop-row : goal.invariant-loop-row
invariant-loop-row l = record {
  count : l.count ≡ length (filter (λ (row : BatchRow). row.status == submitted) (take l.row-index l.self.table.rows));
  small : l.count ≤ l.row-index;
}
