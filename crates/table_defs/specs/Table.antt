-- The table of batches, and what each record makes of it. Whether a record is taken is said in `Taken`.
use Rattle.std.specs.Prelude.{ℕ, not, List, [], ◌∷◌, ◌++◌, filter, find, Option, Some, None}
use Rattle.base_names.specs.declared.id.BatchId.{BatchId}
use Rattle.model_data.specs.declared.batch.AttemptOf.{AttemptOf}
use Rattle.model_data.specs.declared.batch.BatchBody.{BatchBody}
use Rattle.model_data.specs.declared.batch.BatchRecord.{BatchRecord}
use Rattle.model_data.specs.declared.batch.BatchRecord.TheVariants.{Create, Abort, Discard, Retry, Finish, Lost, Next}
use Rattle.model_data.specs.declared.batch.BatchResult.{BatchResult}
use Rattle.model_data.specs.declared.batch.BatchRow.{BatchRow}
use Rattle.table_defs.specs.Lists.{changed, each, put}
use Rattle.table_defs.specs.Names.{Owner, is_id, is_owner}

-- ---- statuses

-- it waits or runs
abbrev pub submitted : ℕ
submitted = 2

-- its owner ended it
abbrev pub aborted : ℕ
aborted = 3

-- it ended with its node
abbrev pub failed : ℕ
failed = 4

-- it has a result
abbrev pub completed : ℕ
completed = 5

-- ---- the table

-- an owner's greatest number, which stays when the batch is gone
pub record Mark : Type 0 where
  pub owner : Owner
  pub number : ℕ

-- the batches by their time of coming
pub record Table : Type 0 where
  pub rows : List BatchRow
  pub marks : List Mark

abbrev pub no_rows : Table
no_rows = record { rows = []; marks = [] }

abbrev pub row_of : BatchId → Table → Option BatchRow
row_of id t = find (λ row. is_id id row.id) t.rows

abbrev pub number_of : Option Mark → ℕ
number_of None = 0
number_of (Some mark) = mark.number

-- 0 where the owner never had a number
abbrev pub greatest : Owner → Table → ℕ
greatest owner t = number_of (find (λ mark. is_owner owner mark.owner) t.marks)

-- ---- changes

abbrev pub with_mark : BatchId → List Mark → List Mark
with_mark id marks = put (λ mark. is_owner id.owner mark.owner) record { owner = id.owner; number = id.number } marks

abbrev pub new_row : BatchId → ℕ → BatchBody → BatchRow
new_row id attempt body = record { id = id; status = submitted; attempt = attempt; body = body; result = None }

-- The attempt ends with this status.
abbrev pub ended : ℕ → Option BatchResult → BatchRow → BatchRow
ended status result row = record row { status = status; result = result }

-- This attempt begins.
abbrev pub begun : ℕ → BatchRow → BatchRow
begun attempt row = record row { status = submitted; attempt = attempt; result = None }

abbrev pub with_row : BatchId → (BatchRow → BatchRow) → Table → Table
with_row id f t = record t { rows = changed (λ row. is_id id row.id) f t.rows }

abbrev pub without_row : BatchId → Table → Table
without_row id t = record t { rows = filter (λ row. not (is_id id row.id)) t.rows }

-- each of these attempts has ended with its node
abbrev pub lost : List AttemptOf → Table → Table
lost items t = each (λ (item : AttemptOf). with_row item.id (ended failed None)) items t

-- what a record makes of the table
abbrev pub applied : BatchRecord → Table → Table
applied (Create id attempt body) t = record { rows = t.rows ++ new_row id attempt body ∷ []; marks = with_mark id t.marks }
applied (Abort id attempt) t = with_row id (ended aborted None) t
applied (Discard id) t = without_row id t
applied (Retry id attempt) t = with_row id (begun attempt) t
applied (Finish id attempt result) t = with_row id (ended completed (Some result)) t
applied (Lost items) t = lost items t
applied (Next id) t = record t { marks = with_mark id t.marks }

-- the table behind these records
abbrev pub after : List BatchRecord → Table → Table
after rs t = each applied rs t
