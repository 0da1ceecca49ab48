-- Which records are taken, and how every other one is refused.
use Rattle.std.specs.Prelude.{◌≡◌, ℕ, ◌+◌, ◌==◌, nat_lt, nat_le, Bool, not, ◌&&◌, ◌||◌, List, [], ◌∷◌, Option, Some, None, if◌then◌else◌}
use Rattle.base_names.specs.declared.refusal.Refusal.{Refusal}
use Rattle.base_names.specs.declared.refusal.Refusal.TheVariants.{BATCH, BATCHSTATE}
use Rattle.model_data.specs.declared.batch.AttemptOf.{AttemptOf}
use Rattle.model_data.specs.declared.batch.BatchRecord.{BatchRecord}
use Rattle.model_data.specs.declared.batch.BatchRecord.TheVariants.{Create, Abort, Discard, Retry, Finish, Lost, Next}
use Rattle.model_data.specs.declared.batch.BatchRow.{BatchRow}
use Rattle.table_defs.specs.Table.{Table, aborted, applied, ended, failed, greatest, row_of, submitted, with_row}

-- ---- refusals

-- the refusal where the condition does not hold
abbrev pub unless : Bool → Refusal → Option Refusal
unless holds refusal = if holds then None else Some refusal

-- the first of two refusals
abbrev pub or_else : Option Refusal → Option Refusal → Option Refusal
or_else (Some refusal) later = Some refusal
or_else None later = later

-- There has to be a row, or it is BATCH; then the row has to be of this state, or it is BATCHSTATE with its status.
abbrev pub on_row : (BatchRow → Bool) → Option BatchRow → Option Refusal
on_row wanted None = Some BATCH
on_row wanted (Some row) = unless (wanted row) (BATCHSTATE row.status)

-- ---- states of a row

-- This attempt goes on.
abbrev pub is_open : ℕ → BatchRow → Bool
is_open attempt row = (row.status == submitted) && (row.attempt == attempt)

-- It was aborted or failed, and this attempt is the next one.
abbrev pub may_begin : ℕ → BatchRow → Bool
may_begin attempt row = ((row.status == aborted) || (row.status == failed)) && (attempt == row.attempt + 1)

abbrev pub is_over : BatchRow → Bool
is_over row = not (row.status == submitted)

-- ---- records

-- The first item that is not open decides, each in the table that the items before it leave.
abbrev pub lost_refusal : List AttemptOf → Table → Option Refusal
lost_refusal [] t = None
lost_refusal (item ∷ items) t = or_else (on_row (is_open item.attempt) (row_of item.id t)) (lost_refusal items (with_row item.id (ended failed None) t))

-- why a record is refused; none where it is taken
abbrev pub refusal : BatchRecord → Table → Option Refusal
refusal (Create id attempt body) t = unless (nat_lt (greatest id.owner t) id.number) BATCH
refusal (Abort id attempt) t = on_row (is_open attempt) (row_of id t)
refusal (Discard id) t = on_row is_over (row_of id t)
refusal (Retry id attempt) t = on_row (may_begin attempt) (row_of id t)
refusal (Finish id attempt result) t = on_row (is_open attempt) (row_of id t)
refusal (Lost items) t = lost_refusal items t
refusal (Next id) t = unless (nat_le (greatest id.owner t) id.number) BATCH

-- the first refusal, each record in the table that the ones before it leave
abbrev pub first_refusal : List BatchRecord → Table → Option Refusal
first_refusal [] t = None
first_refusal (r ∷ rs) t = or_else (refusal r t) (first_refusal rs (applied r t))

abbrev pub AreTaken : List BatchRecord → Table → Type 0
AreTaken rs t = first_refusal rs t ≡ None
