-- What holds of the table of records that are all taken: no batch is there twice, and each one's number is given.
use Rattle.std.specs.Prelude.{◌≡◌, ◌≤◌, List, filter, length, Some}
use Rattle.base_names.specs.declared.id.BatchId.{BatchId}
use Rattle.model_data.specs.declared.batch.BatchRow.{BatchRow}
use Rattle.table_defs.specs.Names.{is_id}
use Rattle.table_defs.specs.Table.{Table, greatest, row_of}

abbrev pub rows_for : BatchId → List BatchRow → List BatchRow
rows_for id rows = filter (λ row. is_id id row.id) rows

pub record IsKeyed (t : Table) : Type 0 where
  pub single : (id : BatchId) → length (rows_for id t.rows) ≤ 1
  pub numbered : (id : BatchId) (row : BatchRow) → row_of id t ≡ Some row → id.number ≤ greatest id.owner t
