-- What a table of batches stands for.
use Rattle.std.specs.List.{All}
use Rattle.std.specs.Prelude.{ℕ, List, map}
use Rattle.base_names.specs.declared.id.BatchId.{BatchId}
use Rattle.model_data.specs.Lawful.{IsLawful}
use Rattle.model_data.specs.declared.batch.BatchRecord.{BatchRecord}
use Rattle.model_data.specs.declared.batch.BatchRecord.TheVariants.{Abort, Create, Discard, Finish, Lost, Next, Retry}
use Rattle.model_data.specs.declared.batch.BatchRow.{BatchRow}
use Rattle.table_defs.specs.Table.{Mark, Table}

-- The room is how many records can be applied without more memory.
pub record Contents : Type 0 where
  pub table : Table
  pub room : ℕ

-- the last ID that an owner was given
abbrev pub mark_of : BatchId → Mark
mark_of id = record { owner = id.owner; number = id.number }

abbrev pub table_in : List BatchRow → List BatchId → Table
table_in rows lasts = record { rows = rows; marks = map mark_of lasts }

-- each batch's model is lawful
abbrev pub AreLawful : List BatchRow → Type 0
AreLawful rows = All (λ row. IsLawful row.body.model) rows

-- so is that of a batch that a record creates
abbrev pub BringsLawful : BatchRecord → Type 0
BringsLawful (Create id attempt body) = IsLawful body.model
BringsLawful (Abort id attempt) = Unit {0}
BringsLawful (Discard id) = Unit {0}
BringsLawful (Retry id attempt) = Unit {0}
BringsLawful (Finish id attempt result) = Unit {0}
BringsLawful (Lost items) = Unit {0}
BringsLawful (Next id) = Unit {0}
