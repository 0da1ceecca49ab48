-- An owner's rows stand by number.
use Rattle.std.proofs.Common.{◌≡◌, refl, sym, ap, subst, ℕ, ◌<◌, ◌≤◌, Bool, true, false, not, List, [], ◌∷◌, ◌++◌, Some, None, cond, map, arith}
use Rattle.std.specs.Prelude.{filter}
use Rattle.base_names.specs.declared.id.BatchId.{BatchId}
use Rattle.model_data.specs.declared.batch.AttemptOf.{AttemptOf}
use Rattle.model_data.specs.declared.batch.BatchBody.{BatchBody}
use Rattle.model_data.specs.declared.batch.BatchRecord.{BatchRecord}
use Rattle.model_data.specs.declared.batch.BatchRecord.TheVariants.{Create, Abort, Discard, Retry, Finish, Lost, Next}
use Rattle.model_data.specs.declared.batch.BatchRow.{BatchRow}
use Rattle.table_defs.specs.Lists.{changed}
use Rattle.table_defs.specs.Names.{Owner, is_id, is_owner}
use Rattle.table_defs.specs.Outcomes.{IsRisingFrom}
use Rattle.table_defs.specs.Owned.{rows_of}
use Rattle.table_defs.specs.Table.{Table, aborted, after, applied, begun, completed, ended, failed, greatest, lost, new_row, no_rows, with_row}
use Rattle.table_defs.specs.Taken.{AreTaken, first_refusal, refusal}
use Rattle.table_defs.proofs.Keyed.{keyed_after}
use Rattle.table_defs.proofs.Lists.{filter_changed, filter_filter, push_other, push_own}
use Rattle.table_defs.proofs.Names.{owner_is}
use Rattle.table_defs.proofs.Records.{or_first, or_then}
use Rattle.table_defs.proofs.Rows.{lt_le, mark_raised, new_number, next_number, raised}
use Rattle.cluster_defs.specs.Entries.{Entry}
use Rattle.cluster_defs.specs.Legal.{GivenBack, cluster_behind}
use Rattle.cluster_defs.specs.Opened.{opened}
use Rattle.cluster_defs.specs.Site.{Site}
use Rattle.cluster_laws.proofs.Room.{table_history}
use Rattle.cluster_laws.proofs.SoundOpenings.{opened_is_good}

-- The numbers of rows rise, from above n, and none of them passes m.
abbrev Rise : ℕ → List BatchRow → ℕ → Type 0
Rise n [] m = n ≤ m
Rise n (row ∷ rows) m = (n < row.id.number) × Rise row.id.number rows m

from_below : (l n m : ℕ) (rows : List BatchRow) → l ≤ n → Rise n rows m → Rise l rows m
from_below l n m [] le h = omega (arith, le, h)
from_below l n m (row ∷ rows) le h = let first : n < row.id.number = h.0 in (omega (arith, le, first), h.1)

up_to : (n m o : ℕ) (rows : List BatchRow) → m ≤ o → Rise n rows m → Rise n rows o
up_to n m o [] le h = omega (arith, le, h)
up_to n m o (row ∷ rows) le h = (h.0, up_to row.id.number m o rows le h.1)

pushed : (n m : ℕ) (row : BatchRow) (rows : List BatchRow) → m < row.id.number → Rise n rows m → Rise n (rows ++ row ∷ []) row.id.number
pushed n m row [] above h = (omega (arith, above, h), omega arith)
pushed n m row (first ∷ rows) above h = (h.0, pushed first.id.number m row rows above h.1)

kept_by : (n m : ℕ) (row : BatchRow) (rows : List BatchRow) (b : Bool) → n < row.id.number → Rise row.id.number rows m → Rise n (cond b (row ∷ rows) rows) m
kept_by n m row rows true first h = (first, h)
kept_by n m row rows false first h = from_below n row.id.number m rows (lt_le _ _ first) h

kept : (n m : ℕ) (p : BatchRow → Bool) (rows : List BatchRow) → Rise n rows m → Rise n (filter p rows) m
kept n m p [] h = h
kept n m p (row ∷ rows) h = kept_by n m row (filter p rows) (p row) h.0 (kept row.id.number m p rows h.1)

same_by : (n m : ℕ) (row next : BatchRow) (rows : List BatchRow) → next.id ≡ row.id → (n < row.id.number) × Rise row.id.number rows m → Rise n (next ∷ rows) m
same_by n m row next rows same h = subst (λ (id : BatchId). (n < id.number) × Rise id.number rows m) (sym same) h

one_same : (f : BatchRow → BatchRow) → ((row : BatchRow) → (f row).id ≡ row.id) → (row : BatchRow) (b : Bool) → (cond b (f row) row).id ≡ row.id
one_same f stays row true = stays row
one_same f stays row false = refl

same : (n m : ℕ) (test : BatchRow → Bool) (f : BatchRow → BatchRow) → ((row : BatchRow) → (f row).id ≡ row.id) → (rows : List BatchRow) → Rise n rows m → Rise n (changed test f rows) m
same n m test f stays [] h = h
same n m test f stays (row ∷ rows) h = same_by n m row (cond (test row) (f row) row) (changed test f rows) (one_same f stays row (test row)) (h.0, same row.id.number m test f stays rows h.1)

-- ---- a record

abbrev Stands : Owner → Table → Type 0
Stands u t = Rise 0 (rows_of u t.rows) (greatest u t)

changed_stands : (u : Owner) (id : BatchId) (f : BatchRow → BatchRow) (t : Table) → ((row : BatchRow) → (f row).id ≡ row.id) → Stands u t → Stands u (with_row id f t)
changed_stands u id f t stays h =
    subst (λ (rows : List BatchRow). Rise 0 rows (greatest u t)) (sym (filter_changed (λ (row : BatchRow). is_owner u row.id.owner) (λ row. is_id id row.id) f (λ row. ap (λ (i : BatchId). is_owner u i.owner) (stays row)) t.rows))
    (same 0 (greatest u t) (λ row. is_id id row.id) f stays (rows_of u t.rows) h)

lost_stands : (u : Owner) (items : List AttemptOf) (t : Table) → Stands u t → Stands u (lost items t)
lost_stands u [] t h = h
lost_stands u (item ∷ items) t h = lost_stands u items (with_row item.id (ended failed None) t) (changed_stands u item.id (ended failed None) t (λ row. refl) h)

created_stands : (u : Owner) (id : BatchId) (n : ℕ) (body : BatchBody) (t : Table) (b : Bool) → is_owner u id.owner ≡ b → greatest id.owner t < id.number → Stands u t → Stands u (applied (Create id n body) t)
created_stands u id n body t true own new h =
    let above : greatest u t < id.number = subst (λ (o : Owner). greatest o t < id.number) (sym (owner_is u id.owner own)) new in
    subst (λ (m : ℕ). Rise 0 (rows_of u (applied (Create id n body) t).rows) m) (sym (mark_raised u id t.marks true own))
    (subst (λ (rows : List BatchRow). Rise 0 rows id.number) (sym (push_own (λ (row : BatchRow). is_owner u row.id.owner) (new_row id n body) own t.rows)) (pushed 0 (greatest u t) (new_row id n body) (rows_of u t.rows) above h))
created_stands u id n body t false other new h =
    subst (λ (m : ℕ). Rise 0 (rows_of u (applied (Create id n body) t).rows) m) (sym (mark_raised u id t.marks false other))
    (subst (λ (rows : List BatchRow). Rise 0 rows (greatest u t)) (sym (push_other (λ (row : BatchRow). is_owner u row.id.owner) (new_row id n body) other t.rows)) h)

record_stands : (u : Owner) (r : BatchRecord) (t : Table) → refusal r t ≡ None → Stands u t → Stands u (applied r t)
record_stands u (Create id n body) t taken h = created_stands u id n body t (is_owner u id.owner) refl (new_number id t taken) h
record_stands u (Abort id n) t taken h = changed_stands u id (ended aborted None) t (λ row. refl) h
record_stands u (Discard id) t taken h =
    subst (λ (rows : List BatchRow). Rise 0 rows (greatest u t)) (sym (filter_filter (λ (row : BatchRow). is_owner u row.id.owner) (λ (row : BatchRow). not (is_id id row.id)) t.rows)) (kept 0 (greatest u t) (λ row. not (is_id id row.id)) (rows_of u t.rows) h)
record_stands u (Retry id n) t taken h = changed_stands u id (begun n) t (λ row. refl) h
record_stands u (Finish id n result) t taken h = changed_stands u id (ended completed (Some result)) t (λ row. refl) h
record_stands u (Lost items) t taken h = lost_stands u items t h
record_stands u (Next id) t taken h = up_to 0 (greatest u t) (greatest u (applied (Next id) t)) (rows_of u t.rows) (raised u id t (next_number id t taken)) h

records_stand : (u : Owner) (rs : List BatchRecord) (t : Table) → first_refusal rs t ≡ None → Stands u t → Stands u (after rs t)
records_stand u [] t taken h = h
records_stand u (r ∷ rs) t taken h = records_stand u rs (applied r t) (or_then (refusal r t) (first_refusal rs (applied r t)) taken) (record_stands u r t (or_first (refusal r t) (first_refusal rs (applied r t)) taken) h)

-- ---- a history

rising : (n m : ℕ) (rows : List BatchRow) → Rise n rows m → IsRisingFrom n (map (λ row. row.id.number) rows)
rising n m [] h = tt
rising n m (row ∷ rows) h = (h.0, rising row.id.number m rows h.1)

pub rows_by_number : (u : Owner) (k : Site) (rs : List BatchRecord) (end : ℕ) (H : List Entry) (N : List GivenBack) → AreTaken rs no_rows → IsRisingFrom 0 (map (λ row. row.id.number) (rows_of u (cluster_behind k (after rs no_rows) end H N).table.rows))
rows_by_number u k rs end H N taken =
    let t = after rs no_rows in
    rising 0 (greatest u (cluster_behind k t end H N).table) (rows_of u (cluster_behind k t end H N).table.rows)
    (table_history k (Stands u) (record_stands u) H N 0 (opened k t end) (opened_is_good k t end (keyed_after rs taken)) (records_stand u rs no_rows taken (omega arith)))
