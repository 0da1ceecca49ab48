-- Each record that is taken keeps it so that no batch has a second row.
use Rattle.std.proofs.Common.{◌≡◌, refl, sym, ap, ◌∙◌, subst, ℕ, ◌<◌, ◌≤◌, Bool, true, false, not, List, [], ◌∷◌, ◌++◌, length, Option, Some, None, cond, arith}
use Rattle.base_names.specs.declared.id.BatchId.{BatchId}
use Rattle.model_data.specs.declared.batch.AttemptOf.{AttemptOf}
use Rattle.model_data.specs.declared.batch.BatchBody.{BatchBody}
use Rattle.model_data.specs.declared.batch.BatchRecord.{BatchRecord}
use Rattle.model_data.specs.declared.batch.BatchRecord.TheVariants.{Create, Abort, Discard, Retry, Finish, Lost, Next}
use Rattle.model_data.specs.declared.batch.BatchRow.{BatchRow}
use Rattle.std.proofs.lemmas.List.{length-map}
use Rattle.table_defs.specs.Keyed.{IsKeyed, rows_for}
use Rattle.table_defs.specs.Lists.{changed}
use Rattle.table_defs.specs.Names.{is_id}
use Rattle.table_defs.specs.Table.{Table, aborted, after, applied, begun, completed, ended, failed, greatest, lost, new_row, no_rows, row_of, with_row, without_row}
use Rattle.table_defs.specs.Taken.{first_refusal, refusal}
use Rattle.table_defs.proofs.Lists.{append_nil, fewer, filter_changed, filter_filter, filter_push, none_filter}
use Rattle.table_defs.proofs.Names.{id_is}
use Rattle.table_defs.proofs.Records.{or_first, or_then}
use Rattle.table_defs.proofs.Rows.{IsNumbered, new_number, no_rows_numbered, numbered_kept}

abbrev pub IsSingle : Table → Type 0
IsSingle t = (id : BatchId) → length (rows_for id t.rows) ≤ 1

same_length : (id : BatchId) (test : BatchRow → Bool) (f : BatchRow → BatchRow) (rows : List BatchRow) → ((row : BatchRow) → (f row).id ≡ row.id) → length (rows_for id (changed test f rows)) ≡ length (rows_for id rows)
same_length id test f rows stays = ap length (filter_changed (λ row. is_id id row.id) test f (λ row. ap (is_id id) (stays row)) rows) ∙ length-map (rows_for id rows) (λ row. cond (test row) (f row) row)

pub single_with : (id : BatchId) (f : BatchRow → BatchRow) (t : Table) → ((row : BatchRow) → (f row).id ≡ row.id) → IsSingle t → IsSingle (with_row id f t)
single_with id f t stays single a = let e = same_length a (λ row. is_id id row.id) f t.rows stays in omega (arith, e, single a)

single_lost : (items : List AttemptOf) (t : Table) → IsSingle t → IsSingle (lost items t)
single_lost [] t single = single
single_lost (item ∷ items) t single = single_lost items (with_row item.id (ended failed None) t) (single_with item.id (ended failed None) t (λ row. refl) single)

single_without : (id : BatchId) (t : Table) → IsSingle t → IsSingle (without_row id t)
single_without id t single a =
    let e = ap length (filter_filter (λ (row : BatchRow). is_id a row.id) (λ (row : BatchRow). not (is_id id row.id)) t.rows) in
    let f = fewer (λ (row : BatchRow). not (is_id id row.id)) (rows_for a t.rows) in
    omega (arith, e, f, single a)

-- the number of a new batch has no row
pub no_old : (id : BatchId) (t : Table) (found : Option BatchRow) → row_of id t ≡ found → greatest id.owner t < id.number → IsNumbered t → row_of id t ≡ None
no_old id t None is new numbered = is
no_old id t (Some row) is new numbered = let old : id.number ≤ greatest id.owner t = numbered id row is in absurd (omega arith)

new_by : (a id : BatchId) (rows : List BatchRow) (row : BatchRow) (b : Bool) → is_id a id ≡ b → length (rows_for a rows) ≤ 1 → rows_for id rows ≡ [] → length (rows_for a rows ++ cond b (row ∷ []) []) ≤ 1
new_by a id rows row true same one none = let e : rows_for a rows ≡ [] = ap (λ (i : BatchId). rows_for i rows) (id_is a id same) ∙ none in rw e (omega arith)
new_by a id rows row false apart one none = rw (append_nil (rows_for a rows)) one

single_new : (id : BatchId) (attempt : ℕ) (body : BatchBody) (t : Table) → greatest id.owner t < id.number → IsNumbered t → IsSingle t → IsSingle (applied (Create id attempt body) t)
single_new id attempt body t new numbered single a =
    subst (λ (rows : List BatchRow). length rows ≤ 1) (sym (filter_push (λ row. is_id a row.id) t.rows (new_row id attempt body) (is_id a id) refl))
    (new_by a id t.rows (new_row id attempt body) (is_id a id) refl (single a) (none_filter (λ row. is_id id row.id) t.rows (no_old id t (row_of id t) refl new numbered)))

pub single_kept : (r : BatchRecord) (t : Table) → IsNumbered t → refusal r t ≡ None → IsSingle t → IsSingle (applied r t)
single_kept (Create id attempt body) t numbered taken single = single_new id attempt body t (new_number id t taken) numbered single
single_kept (Abort id attempt) t numbered taken single = single_with id (ended aborted None) t (λ row. refl) single
single_kept (Discard id) t numbered taken single = single_without id t single
single_kept (Retry id attempt) t numbered taken single = single_with id (begun attempt) t (λ row. refl) single
single_kept (Finish id attempt result) t numbered taken single = single_with id (ended completed (Some result)) t (λ row. refl) single
single_kept (Lost items) t numbered taken single = single_lost items t single
single_kept (Next id) t numbered taken single = single

pub keyed_kept : (r : BatchRecord) (t : Table) → refusal r t ≡ None → IsKeyed t → IsKeyed (applied r t)
keyed_kept r t taken o = record { numbered = numbered_kept r t o.numbered taken; single = single_kept r t o.numbered taken o.single }

pub keyed_from : (rs : List BatchRecord) (t : Table) → first_refusal rs t ≡ None → IsKeyed t → IsKeyed (after rs t)
keyed_from [] t taken o = o
keyed_from (r ∷ rs) t taken o = keyed_from rs (applied r t) (or_then (refusal r t) (first_refusal rs (applied r t)) taken) (keyed_kept r t (or_first (refusal r t) (first_refusal rs (applied r t)) taken) o)

pub none_keyed : IsKeyed no_rows
none_keyed = record { numbered = no_rows_numbered; single = λ id. omega arith }

pub keyed_after : (rs : List BatchRecord) → first_refusal rs no_rows ≡ None → IsKeyed (after rs no_rows)
keyed_after rs taken = keyed_from rs no_rows taken none_keyed
