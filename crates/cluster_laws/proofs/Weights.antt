-- What rows weigh: no more than the records that made them.
use Rattle.std.proofs.Common.{◌≡◌, refl, sym, ap, ◌∙◌, ℕ, ◌+◌, ◌*◌, ◌≤◌, ◌==◌, Bool, true, not, List, [], ◌∷◌, ◌++◌, length, Some, None, arith}
use Rattle.std.specs.Prelude.{filter, sum_by}
use Rattle.std.proofs.lemmas.Bool.Decides.{Decides-eqb}
use Rattle.std.proofs.lemmas.List.Sums.{sum_by_push}
use Rattle.base_names.specs.declared.id.BatchId.{BatchId}
use Rattle.model_data.specs.declared.batch.AttemptOf.{AttemptOf}
use Rattle.model_data.specs.declared.batch.BatchBody.{BatchBody}
use Rattle.model_data.specs.declared.batch.BatchRecord.{BatchRecord}
use Rattle.model_data.specs.declared.batch.BatchRecord.TheVariants.{Create, Abort, Discard, Retry, Finish, Lost, Next}
use Rattle.model_data.specs.declared.batch.BatchResult.{BatchResult}
use Rattle.model_data.specs.declared.batch.BatchRow.{BatchRow}
use Rattle.table_defs.specs.Keyed.{IsKeyed}
use Rattle.table_defs.specs.Names.{Owner, is_id, is_owner}
use Rattle.table_defs.specs.Owned.{rows_of}
use Rattle.table_defs.specs.Table.{Table, aborted, applied, begun, completed, ended, failed as lost_status, lost, new_row, row_of, submitted, with_row}
use Rattle.table_defs.specs.Taken.{is_open, on_row, refusal}
use Rattle.table_defs.proofs.Names.{and_right, id_is}
use Rattle.table_defs.proofs.Rows.{wanted_row}
use Rattle.cluster_defs.specs.Listing.{is_going_on}
use Rattle.cluster_defs.specs.Refusals.{kept_bytes, need, reserve, reserved}
use Rattle.cluster_defs.specs.Site.{Site}
use Rattle.cluster_laws.specs.Bounds.{IsWritten, row_bytes}
use Rattle.cluster_laws.proofs.Lists.{found_passes}
use Rattle.cluster_laws.proofs.Sums.{fewer_changed, one_more, sum_changed, sum_each, sum_filter, sum_length, sum_one}

-- ---- what one record adds

abbrev pub weight : Site → Table → ℕ
weight k t = sum_by (row_bytes k) t.rows

ended_weighs : (k : Site) (status : ℕ) (row : BatchRow) → row_bytes k (ended status None row) ≤ row_bytes k row
ended_weighs k status row = omega arith

begun_weighs : (k : Site) (attempt : ℕ) (row : BatchRow) → row_bytes k (begun attempt row) ≤ row_bytes k row
begun_weighs k attempt row = omega arith

lost_weighs : (k : Site) (items : List AttemptOf) (t : Table) → weight k (lost items t) ≤ weight k t
lost_weighs k [] t = omega arith
lost_weighs k (item ∷ items) t =
    let a = sum_changed (row_bytes k) (λ row. is_id item.id row.id) (ended lost_status None) (ended_weighs k lost_status) t.rows in
    let b = lost_weighs k items (with_row item.id (ended lost_status None) t) in
    omega (arith, a, b)

same_result : (k : Site) (id : BatchId) (attempt : ℕ) (result : BatchResult) (row : BatchRow) → id ≡ row.id → row.attempt ≡ attempt → k.record_bytes (Finish row.id row.attempt result) ≡ k.record_bytes (Finish id attempt result)
same_result k id attempt result row is at = ap (λ (i : BatchId). k.record_bytes (Finish i row.attempt result)) (sym is) ∙ ap (λ (n : ℕ). k.record_bytes (Finish id n result)) at

finished_weighs : (k : Site) (id : BatchId) (attempt : ℕ) (result : BatchResult) (row : BatchRow) → id ≡ row.id → row.attempt ≡ attempt → row_bytes k (ended completed (Some result) row) ≤ row_bytes k row + (5 + k.record_bytes (Finish id attempt result))
finished_weighs k id attempt result row is at = let e = same_result k id attempt result row is at in omega (arith, e)

open_is : (n : ℕ) (row : BatchRow) → is_open n row ≡ true → row.attempt ≡ n
open_is n row h = (Decides-eqb row.attempt n).0 (and_right (row.status == submitted) (row.attempt == n) h)

found_open : (id : BatchId) (n : ℕ) (t : Table) → on_row (is_open n) (row_of id t) ≡ None → (row : BatchRow) → row_of id t ≡ Some row → row.attempt ≡ n
found_open id n t taken row is = let w = wanted_row (is_open n) (row_of id t) taken in let e : w.0 ≡ row = cc in ap (λ (r : BatchRow). r.attempt) (sym e) ∙ open_is n w.0 w.2

finish_weighs : (k : Site) (id : BatchId) (n : ℕ) (result : BatchResult) (t : Table) → on_row (is_open n) (row_of id t) ≡ None → IsKeyed t → weight k (with_row id (ended completed (Some result)) t) ≤ weight k t + (5 + k.record_bytes (Finish id n result))
finish_weighs k id n result t taken o =
    sum_one (row_bytes k) (λ row. is_id id row.id) (ended completed (Some result)) t.rows (5 + k.record_bytes (Finish id n result)) (o.single id)
    (λ row is. finished_weighs k id n result row (id_is id row.id (found_passes (λ (r : BatchRow). is_id id r.id) t.rows row is)) (found_open id n t taken row is))

new_weighs : (k : Site) (id : BatchId) (n : ℕ) (body : BatchBody) → IsWritten k → row_bytes k (new_row id n body) ≡ 5 + k.record_bytes (Create id n body)
new_weighs k id n body written = let e = written.width id n body in omega (arith, e)

create_weighs : (k : Site) (id : BatchId) (n : ℕ) (body : BatchBody) (t : Table) → IsWritten k → weight k (applied (Create id n body) t) ≤ weight k t + (5 + k.record_bytes (Create id n body))
create_weighs k id n body t written = let e = sum_by_push (row_bytes k) t.rows (new_row id n body) in let f = new_weighs k id n body written in omega (arith, e, f)

lighter : (a b c : ℕ) → a ≤ b → a ≤ b + c
lighter a b c h = omega (arith, h)

pub record_weighs : (k : Site) (r : BatchRecord) (t : Table) → IsWritten k → refusal r t ≡ None → IsKeyed t → weight k (applied r t) ≤ weight k t + (5 + k.record_bytes r)
record_weighs k (Create id n body) t written taken o = create_weighs k id n body t written
record_weighs k (Abort id n) t written taken o = lighter _ _ _ (sum_changed (row_bytes k) (λ row. is_id id row.id) (ended aborted None) (ended_weighs k aborted) t.rows)
record_weighs k (Discard id) t written taken o = lighter _ _ _ (sum_filter (row_bytes k) (λ row. not (is_id id row.id)) t.rows)
record_weighs k (Retry id n) t written taken o = lighter _ _ _ (sum_changed (row_bytes k) (λ row. is_id id row.id) (begun n) (begun_weighs k n) t.rows)
record_weighs k (Finish id n result) t written taken o = finish_weighs k id n result t taken o
record_weighs k (Lost items) t written taken o = lighter _ _ _ (lost_weighs k items t)
record_weighs k (Next id) t written taken o = omega arith

-- ---- what follows

pub rows_weigh : (k : Site) (t : Table) → 5 * length t.rows ≤ weight k t
rows_weigh k t = sum_length (row_bytes k) 5 (λ row. omega arith) t.rows

model_weighs : (k : Site) → IsWritten k → (row : BatchRow) → k.model_bytes row.body.model ≤ row_bytes k row
model_weighs k written row = let h = written.whole record { owner = row.id.owner; number = 1 } 1 row.body in omega (arith, h)

pub kept_weighs : (k : Site) (u : Owner) (t : Table) → IsWritten k → kept_bytes k u t ≤ weight k t
kept_weighs k u t written =
    let a = sum_each (λ (row : BatchRow). k.model_bytes row.body.model) (row_bytes k) (model_weighs k written) (rows_of u t.rows) in
    let b = sum_filter (row_bytes k) (λ row. is_owner u row.id.owner) t.rows in
    omega (arith, a, b)

-- ---- how many go on

abbrev pub going_on : Table → ℕ
going_on t = length (filter is_going_on t.rows)

fewer_lost : (items : List AttemptOf) (t : Table) → going_on (lost items t) ≤ going_on t
fewer_lost [] t = omega arith
fewer_lost (item ∷ items) t =
    let a = fewer_changed is_going_on (λ row. is_id item.id row.id) (ended lost_status None) (λ row. refl) t.rows in
    let b = fewer_lost items (with_row item.id (ended lost_status None) t) in
    omega (arith, a, b)

pushed : (p : BatchRow → Bool) (rows : List BatchRow) (row : BatchRow) → p row ≡ true → length (filter p (rows ++ row ∷ [])) ≤ length (filter p rows) + 1
pushed p [] row is = rw is (omega arith)
pushed p (x ∷ rows) row is = grind (arith, pushed p rows row is)

dropped : (p q : BatchRow → Bool) (rows : List BatchRow) → length (filter p (filter q rows)) ≤ length (filter p rows)
dropped p q [] = omega arith
dropped p q (x ∷ rows) = grind (arith, dropped p q rows)

-- one more at most
pub record_begins : (r : BatchRecord) (t : Table) → IsKeyed t → going_on (applied r t) ≤ going_on t + 1
record_begins (Create id n body) t o = pushed is_going_on t.rows (new_row id n body) refl
record_begins (Abort id n) t o = lighter _ _ 1 (fewer_changed is_going_on (λ row. is_id id row.id) (ended aborted None) (λ row. refl) t.rows)
record_begins (Discard id) t o = lighter _ _ 1 (dropped is_going_on (λ row. not (is_id id row.id)) t.rows)
record_begins (Retry id n) t o = one_more is_going_on (λ row. is_id id row.id) (begun n) t.rows (o.single id)
record_begins (Finish id n result) t o = lighter _ _ 1 (fewer_changed is_going_on (λ row. is_id id row.id) (ended completed (Some result)) (λ row. refl) t.rows)
record_begins (Lost items) t o = lighter _ _ 1 (fewer_lost items t)
record_begins (Next id) t o = omega arith

pub needs : (k : Site) (end : ℕ) (t : Table) (r : BatchRecord) → IsKeyed t → need k end t r ≤ end + reserve t + 5 + k.record_bytes r + reserved
needs k end t r o = let h = record_begins r t o in omega (arith, h)
