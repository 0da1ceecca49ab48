-- What of a table and of its records is one owner's.
use Rattle.std.specs.Prelude.{List, [], ◌∷◌, filter, flat_map, if◌then◌else◌}
use Rattle.base_names.specs.declared.id.BatchId.{BatchId}
use Rattle.model_data.specs.declared.batch.AttemptOf.{AttemptOf}
use Rattle.model_data.specs.declared.batch.BatchRecord.{BatchRecord}
use Rattle.model_data.specs.declared.batch.BatchRecord.TheVariants.{Create, Abort, Discard, Retry, Finish, Lost, Next}
use Rattle.model_data.specs.declared.batch.BatchRow.{BatchRow}
use Rattle.table_defs.specs.Names.{Owner, is_owner}
use Rattle.table_defs.specs.Table.{Mark, Table}

abbrev pub rows_of : Owner → List BatchRow → List BatchRow
rows_of u rows = filter (λ row. is_owner u row.id.owner) rows

abbrev pub marks_of : Owner → List Mark → List Mark
marks_of u marks = filter (λ mark. is_owner u mark.owner) marks

-- the table as if no other owner had any batch
abbrev pub table_of : Owner → Table → Table
table_of u t = record { rows = rows_of u t.rows; marks = marks_of u t.marks }

abbrev pub items_of : Owner → List AttemptOf → List AttemptOf
items_of u items = filter (λ item. is_owner u item.id.owner) items

-- A node on which nothing of the owner ran is nothing to it.
abbrev pub lost_record : List AttemptOf → List BatchRecord
lost_record [] = []
lost_record (item ∷ items) = Lost (item ∷ items) ∷ []

abbrev pub only_of : Owner → BatchId → BatchRecord → List BatchRecord
only_of u id r = if is_owner u id.owner then r ∷ [] else []

-- what of a record is the owner's: of a Lost its own items, and every other record whole or not at all
abbrev pub part_of_record : Owner → BatchRecord → List BatchRecord
part_of_record u (Create id attempt body) = only_of u id (Create id attempt body)
part_of_record u (Abort id attempt) = only_of u id (Abort id attempt)
part_of_record u (Discard id) = only_of u id (Discard id)
part_of_record u (Retry id attempt) = only_of u id (Retry id attempt)
part_of_record u (Finish id attempt result) = only_of u id (Finish id attempt result)
part_of_record u (Lost items) = lost_record (items_of u items)
part_of_record u (Next id) = only_of u id (Next id)

abbrev pub records_of : Owner → List BatchRecord → List BatchRecord
records_of u rs = flat_map (part_of_record u) rs
