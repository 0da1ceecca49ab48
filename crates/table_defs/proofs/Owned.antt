-- What a record does to one owner's part of the table.
use Rattle.std.proofs.Common.{◌≡◌, refl, sym, ap, ap₂, ◌∙◌, ℕ, Bool, true, false, not, List, [], ◌∷◌, Some, None, cond}
use Rattle.std.specs.Prelude.{if◌then◌else◌, nat_le, nat_lt}
use Rattle.base_names.specs.declared.id.BatchId.{BatchId}
use Rattle.base_names.specs.declared.refusal.Refusal.TheVariants.{BATCH}
use Rattle.model_data.specs.declared.batch.AttemptOf.{AttemptOf}
use Rattle.model_data.specs.declared.batch.BatchBody.{BatchBody}
use Rattle.model_data.specs.declared.batch.BatchRecord.{BatchRecord}
use Rattle.model_data.specs.declared.batch.BatchRecord.TheVariants.{Create, Abort, Discard, Retry, Finish, Lost, Next}
use Rattle.model_data.specs.declared.batch.BatchRow.{BatchRow}
use Rattle.table_defs.specs.Names.{Owner, is_id, is_owner}
use Rattle.table_defs.specs.Owned.{items_of, lost_record, marks_of, part_of_record, records_of, rows_of, table_of}
use Rattle.table_defs.specs.Table.{Mark, Table, aborted, after, applied, begun, completed, ended, failed, greatest, lost, new_row, number_of, row_of, with_mark, with_row, without_row}
use Rattle.table_defs.specs.Taken.{first_refusal, is_open, is_over, lost_refusal, may_begin, on_row, refusal, unless}
use Rattle.table_defs.proofs.Records.{after_append, both_none, or_first, or_then, refusal_append}
use Rattle.table_defs.proofs.Lists.{each_part, filter_changed, filter_changed_others, filter_filter, filter_others, find_filter, push_other, push_own, put_other, put_own}
use Rattle.table_defs.proofs.Names.{id_within, id_without, owner_within, owner_without}

-- ---- look-ups

pub own_row : (u : Owner) (id : BatchId) (t : Table) → is_owner u id.owner ≡ true → row_of id (table_of u t) ≡ row_of id t
own_row u id t own = find_filter (λ row. is_owner u row.id.owner) (λ row. is_id id row.id) (λ row. id_within u id row.id own) t.rows

pub own_greatest : (u o : Owner) (t : Table) → is_owner u o ≡ true → greatest o (table_of u t) ≡ greatest o t
own_greatest u o t own = ap number_of (find_filter (λ mark. is_owner u mark.owner) (λ mark. is_owner o mark.owner) (λ mark. owner_within u o mark.owner own) t.marks)

-- ---- changes

pub own_change : (u : Owner) (id : BatchId) (f : BatchRow → BatchRow) (t : Table) → ((row : BatchRow) → is_owner u (f row).id.owner ≡ is_owner u row.id.owner) → table_of u (with_row id f t) ≡ with_row id f (table_of u t)
own_change u id f t stays = ap (λ (rows : List BatchRow). record { rows = rows; marks = marks_of u t.marks }) (filter_changed (λ row. is_owner u row.id.owner) (λ row. is_id id row.id) f stays t.rows)

pub other_change : (u : Owner) (id : BatchId) (f : BatchRow → BatchRow) (t : Table) → ((row : BatchRow) → is_owner u (f row).id.owner ≡ is_owner u row.id.owner) → is_owner u id.owner ≡ false → table_of u (with_row id f t) ≡ table_of u t
other_change u id f t stays other = ap (λ (rows : List BatchRow). record { rows = rows; marks = marks_of u t.marks }) (filter_changed_others (λ row. is_owner u row.id.owner) (λ row. is_id id row.id) f stays (λ row own. id_without u id row.id other own) t.rows)

pub own_removal : (u : Owner) (id : BatchId) (t : Table) → table_of u (without_row id t) ≡ without_row id (table_of u t)
own_removal u id t = ap (λ (rows : List BatchRow). record { rows = rows; marks = marks_of u t.marks }) (filter_filter (λ row. is_owner u row.id.owner) (λ row. not (is_id id row.id)) t.rows)

pub other_removal : (u : Owner) (id : BatchId) (t : Table) → is_owner u id.owner ≡ false → table_of u (without_row id t) ≡ table_of u t
other_removal u id t other = ap (λ (rows : List BatchRow). record { rows = rows; marks = marks_of u t.marks }) (filter_others (λ row. is_owner u row.id.owner) (λ row. not (is_id id row.id)) (λ row own. ap not (id_without u id row.id other own)) t.rows)

own_mark : (u : Owner) (id : BatchId) (marks : List Mark) → is_owner u id.owner ≡ true → marks_of u (with_mark id marks) ≡ with_mark id (marks_of u marks)
own_mark u id marks own = put_own (λ mark. is_owner u mark.owner) (λ mark. is_owner id.owner mark.owner) (record { owner = id.owner; number = id.number }) own marks

other_mark : (u : Owner) (id : BatchId) (marks : List Mark) → is_owner u id.owner ≡ false → marks_of u (with_mark id marks) ≡ marks_of u marks
other_mark u id marks other = put_other (λ mark. is_owner u mark.owner) (λ mark. is_owner id.owner mark.owner) (record { owner = id.owner; number = id.number }) other (λ mark own. owner_without u id.owner mark.owner other own) marks

-- ---- records

only_then : (b : Bool) (r : BatchRecord) (t T : Table) → (b ≡ true → T ≡ applied r t) → (b ≡ false → T ≡ t) → T ≡ after (if b then r ∷ [] else []) t
only_then true r t T own other = own refl
only_then false r t T own other = other refl

pub own_lost : (u : Owner) (items : List AttemptOf) (t : Table) → table_of u (lost items t) ≡ lost (items_of u items) (table_of u t)
own_lost u items t = each_part (λ (item : AttemptOf). with_row item.id (ended failed None)) (λ (item : AttemptOf). is_owner u item.id.owner) (table_of u)
    (λ item s own. own_change u item.id (ended failed None) s (λ row. refl)) (λ item s other. other_change u item.id (ended failed None) s (λ row. refl) other) items t

lost_alone : (items : List AttemptOf) (t : Table) → lost items t ≡ after (lost_record items) t
lost_alone [] t = refl
lost_alone (item ∷ items) t = refl

pub own_create : (u : Owner) (id : BatchId) (attempt : ℕ) (body : BatchBody) (t : Table) → is_owner u id.owner ≡ true → table_of u (applied (Create id attempt body) t) ≡ applied (Create id attempt body) (table_of u t)
own_create u id attempt body t own = ap₂ (λ (rows : List BatchRow) (marks : List Mark). record { rows = rows; marks = marks }) (push_own (λ row. is_owner u row.id.owner) (new_row id attempt body) own t.rows) (own_mark u id t.marks own)

pub other_create : (u : Owner) (id : BatchId) (attempt : ℕ) (body : BatchBody) (t : Table) → is_owner u id.owner ≡ false → table_of u (applied (Create id attempt body) t) ≡ table_of u t
other_create u id attempt body t other = ap₂ (λ (rows : List BatchRow) (marks : List Mark). record { rows = rows; marks = marks }) (push_other (λ row. is_owner u row.id.owner) (new_row id attempt body) other t.rows) (other_mark u id t.marks other)

pub part_of_one : (u : Owner) (r : BatchRecord) (t : Table) → table_of u (applied r t) ≡ after (part_of_record u r) (table_of u t)
part_of_one u (Create id attempt body) t = only_then (is_owner u id.owner) (Create id attempt body) (table_of u t) (table_of u (applied (Create id attempt body) t))
    (own_create u id attempt body t) (other_create u id attempt body t)
part_of_one u (Abort id attempt) t = only_then (is_owner u id.owner) (Abort id attempt) (table_of u t) (table_of u (applied (Abort id attempt) t))
    (λ own. own_change u id (ended aborted None) t (λ row. refl)) (other_change u id (ended aborted None) t (λ row. refl))
part_of_one u (Discard id) t = only_then (is_owner u id.owner) (Discard id) (table_of u t) (table_of u (applied (Discard id) t))
    (λ own. own_removal u id t) (other_removal u id t)
part_of_one u (Retry id attempt) t = only_then (is_owner u id.owner) (Retry id attempt) (table_of u t) (table_of u (applied (Retry id attempt) t))
    (λ own. own_change u id (begun attempt) t (λ row. refl)) (other_change u id (begun attempt) t (λ row. refl))
part_of_one u (Finish id attempt result) t = only_then (is_owner u id.owner) (Finish id attempt result) (table_of u t) (table_of u (applied (Finish id attempt result) t))
    (λ own. own_change u id (ended completed (Some result)) t (λ row. refl)) (other_change u id (ended completed (Some result)) t (λ row. refl))
part_of_one u (Lost items) t = own_lost u items t ∙ lost_alone (items_of u items) (table_of u t)
part_of_one u (Next id) t = only_then (is_owner u id.owner) (Next id) (table_of u t) (table_of u (applied (Next id) t))
    (λ own. ap (λ (marks : List Mark). record { rows = rows_of u t.rows; marks = marks }) (own_mark u id t.marks own))
    (λ other. ap (λ (marks : List Mark). record { rows = rows_of u t.rows; marks = marks }) (other_mark u id t.marks other))

-- ---- refusals

only_taken : (b : Bool) (r : BatchRecord) (t : Table) → (b ≡ true → refusal r t ≡ None) → first_refusal (if b then r ∷ [] else []) t ≡ None
only_taken true r t own = rw (own refl)
only_taken false r t own = refl

lost_taken : (b : Bool) (item : AttemptOf) (items : List AttemptOf) (t T : Table) → (b ≡ true → T ≡ with_row item.id (ended failed None) t) → (b ≡ false → T ≡ t)
    → (b ≡ true → on_row (is_open item.attempt) (row_of item.id t) ≡ None) → lost_refusal items T ≡ None → lost_refusal (cond b (item ∷ items) items) t ≡ None
lost_taken true item items t T own other one all = rw (one refl) (ap (lost_refusal items) (sym (own refl)) ∙ all)
lost_taken false item items t T own other one all = ap (lost_refusal items) (sym (other refl)) ∙ all

own_lost_taken : (u : Owner) (items : List AttemptOf) (t : Table) → lost_refusal items t ≡ None → lost_refusal (items_of u items) (table_of u t) ≡ None
own_lost_taken u [] t h = refl
own_lost_taken u (item ∷ items) t h =
    let one = on_row (is_open item.attempt) (row_of item.id t) in
    let next = with_row item.id (ended failed None) t in
    lost_taken (is_owner u item.id.owner) item (items_of u items) (table_of u t) (table_of u next)
    (λ own. own_change u item.id (ended failed None) t (λ row. refl)) (other_change u item.id (ended failed None) t (λ row. refl))
    (λ own. ap (on_row (is_open item.attempt)) (own_row u item.id t own) ∙ or_first one (lost_refusal items next) h)
    (own_lost_taken u items next (or_then one (lost_refusal items next) h))

lost_alone_taken : (items : List AttemptOf) (t : Table) → lost_refusal items t ≡ None → first_refusal (lost_record items) t ≡ None
lost_alone_taken [] t h = refl
lost_alone_taken (item ∷ items) t h = rw h

pub part_taken : (u : Owner) (r : BatchRecord) (t : Table) → refusal r t ≡ None → first_refusal (part_of_record u r) (table_of u t) ≡ None
part_taken u (Create id attempt body) t h = only_taken (is_owner u id.owner) (Create id attempt body) (table_of u t) (λ own. ap (λ (n : ℕ). unless (nat_lt n id.number) BATCH) (own_greatest u id.owner t own) ∙ h)
part_taken u (Abort id attempt) t h = only_taken (is_owner u id.owner) (Abort id attempt) (table_of u t) (λ own. ap (on_row (is_open attempt)) (own_row u id t own) ∙ h)
part_taken u (Discard id) t h = only_taken (is_owner u id.owner) (Discard id) (table_of u t) (λ own. ap (on_row is_over) (own_row u id t own) ∙ h)
part_taken u (Retry id attempt) t h = only_taken (is_owner u id.owner) (Retry id attempt) (table_of u t) (λ own. ap (on_row (may_begin attempt)) (own_row u id t own) ∙ h)
part_taken u (Finish id attempt result) t h = only_taken (is_owner u id.owner) (Finish id attempt result) (table_of u t) (λ own. ap (on_row (is_open attempt)) (own_row u id t own) ∙ h)
part_taken u (Lost items) t h = lost_alone_taken (items_of u items) (table_of u t) (own_lost_taken u items t h)
part_taken u (Next id) t h = only_taken (is_owner u id.owner) (Next id) (table_of u t) (λ own. ap (λ (n : ℕ). unless (nat_le n id.number) BATCH) (own_greatest u id.owner t own) ∙ h)

-- ---- lists of records

pub part_of_all : (u : Owner) (rs : List BatchRecord) (t : Table) → table_of u (after rs t) ≡ after (records_of u rs) (table_of u t)
part_of_all u [] t = refl
part_of_all u (r ∷ rs) t = part_of_all u rs (applied r t) ∙ (ap (after (records_of u rs)) (part_of_one u r t) ∙ sym (after_append (part_of_record u r) (records_of u rs) (table_of u t)))

pub part_all_taken : (u : Owner) (rs : List BatchRecord) (t : Table) → first_refusal rs t ≡ None → first_refusal (records_of u rs) (table_of u t) ≡ None
part_all_taken u [] t h = refl
part_all_taken u (r ∷ rs) t h =
    let first = first_refusal (part_of_record u r) (table_of u t) in
    refusal_append (part_of_record u r) (records_of u rs) (table_of u t)
    ∙ both_none first _ (part_taken u r t (or_first (refusal r t) _ h))
    (ap (first_refusal (records_of u rs)) (sym (part_of_one u r t)) ∙ part_all_taken u rs (applied r t) (or_then (refusal r t) _ h))
