-- An attempt ends once: what has ended is not open, and stays so.
use Rattle.std.proofs.Common.{◌≡◌, ◌≢◌, ◌⊎◌, inl, inr, refl, sym, ap, ap₂, ◌∙◌, subst, ℕ, ◌+◌, ◌<◌, ◌≤◌, Bool, true, false, ◌==◌, List, [], ◌∷◌, ◌++◌, length, Option, Some, None, cond, arith}
use Rattle.std.specs.Prelude.{flat_map, option_map, ⊤}
use Rattle.std.proofs.lemmas.Bool.Decides.{Decides-eqb}
use Rattle.std.proofs.lemmas.Grind.{flat_map-append}
use Rattle.base_names.specs.declared.id.BatchId.{BatchId}
use Rattle.base_names.specs.declared.refusal.Refusal.TheVariants.{BATCHSTATE}
use Rattle.model_data.specs.declared.batch.AttemptOf.{AttemptOf}
use Rattle.model_data.specs.declared.batch.BatchRecord.{BatchRecord}
use Rattle.model_data.specs.declared.batch.BatchRecord.TheVariants.{Create, Abort, Discard, Retry, Finish, Lost, Next}
use Rattle.model_data.specs.declared.batch.BatchResult.{BatchResult}
use Rattle.model_data.specs.declared.batch.BatchRow.{BatchRow}
use Rattle.table_defs.specs.Names.{is_id}
use Rattle.table_defs.specs.Table.{Table, aborted, after, applied, begun, completed, ended, failed, greatest, lost, no_rows, row_of, submitted, with_row}
use Rattle.table_defs.specs.Taken.{first_refusal, is_open, lost_refusal, may_begin, on_row, refusal}
use Rattle.table_defs.specs.Outcomes.{End, end_if, names, outcomes, outcomes_in}
use Rattle.table_defs.proofs.Names.{and_left, and_right, bool_off, id_is}
use Rattle.table_defs.proofs.Records.{or_first, or_then, refusal_append}
use Rattle.table_defs.proofs.Rows.{IsNumbered, le_through, lt_le, new_number, next_number, no_rows_numbered, not_new, numbered_kept, numbered_with, raised, row_gone, row_new, row_with, unless_none, wanted_row}

-- ---- what has ended

abbrev RowOver : ℕ → Option BatchRow → Type 0
RowOver n None = ⊤
RowOver n (Some row) = (n < row.attempt) ⊎ ((n ≡ row.attempt) × (row.status ≢ submitted))

-- The attempt has ended: its number is given, and no row has it open.
record IsOver (a : AttemptOf) (t : Table) : Type 0 where
  given : a.id.number ≤ greatest a.id.owner t
  row : RowOver a.attempt (row_of a.id t)

-- ---- a change of a row

-- The change leaves the attempt closed, or begins a later one.
abbrev Keeps : (BatchRow → BatchRow) → Option BatchRow → Type 0
Keeps f None = ⊤
Keeps f (Some row) = ((f row).attempt ≡ row.attempt × ((f row).status ≢ submitted)) ⊎ (row.attempt < (f row).attempt)

over_row : (n : ℕ) (f : BatchRow → BatchRow) (found : Option BatchRow) (b : Bool) → (b ≡ true → Keeps f found) → RowOver n found → RowOver n (cond b (option_map f found) found)
over_row n f found false keeps over = over
over_row n f None true keeps over = tt
over_row n f (Some row) true keeps over = elim (keeps refl) [ inl same ↦ elim over [ inl less ↦ inl (rw same.0 less) | inr equal ↦ inr (equal.0 ∙ sym same.0, same.1) ] | inr more ↦ elim over [ inl less ↦ inl (omega arith) | inr equal ↦ inl (omega arith) ] ]

over_with : (a : AttemptOf) (id : BatchId) (f : BatchRow → BatchRow) (t : Table) → ((row : BatchRow) → (f row).id ≡ row.id) → (is_id a.id id ≡ true → Keeps f (row_of a.id t)) → IsOver a t → IsOver a (with_row id f t)
over_with a id f t stays keeps over = record { given = over.given; row = subst (RowOver a.attempt) (sym (row_with a.id id f t (is_id a.id id) refl stays)) (over_row a.attempt f (row_of a.id t) (is_id a.id id) keeps over.row) }

-- any change that closes the attempt
keeps_ended : (status : ℕ) (result : Option BatchResult) (found : Option BatchRow) → status ≢ submitted → Keeps (ended status result) found
keeps_ended status result None s = tt
keeps_ended status result (Some row) s = inl (refl, s)

-- ---- an ending

open_means : (n : ℕ) (row : BatchRow) → is_open n row ≡ true → (row.status ≡ submitted) × (row.attempt ≡ n)
open_means n row h = ((Decides-eqb row.status submitted).0 (and_left (row.status == submitted) (row.attempt == n) h), (Decides-eqb row.attempt n).0 (and_right (row.status == submitted) (row.attempt == n) h))

-- what is open has not ended
not_open : (n : ℕ) (row : BatchRow) → is_open n row ≡ true → RowOver n (Some row) → ⊥
not_open n row h over = let m : (row.status ≡ submitted) × (row.attempt ≡ n) = open_means n row h in elim over [ inl less ↦ omega (arith, m.1) | inr equal ↦ equal.1 m.0 ]

names_is : (a : AttemptOf) (id : BatchId) (n : ℕ) → names a id n ≡ true → (a.id ≡ id) × (a.attempt ≡ n)
names_is a id n h = (id_is a.id id (and_left (is_id a.id id) (a.attempt == n) h), (Decides-eqb a.attempt n).0 (and_right (is_id a.id id) (a.attempt == n) h))

ending_over : (a : AttemptOf) (id : BatchId) (n : ℕ) (t : Table) → on_row (is_open n) (row_of id t) ≡ None → IsOver a t → names a id n ≡ false
ending_over a id n t taken over = bool_off (names a id n) (λ h.
    let w : (row : BatchRow) × (row_of id t ≡ Some row) × (is_open n row ≡ true) = wanted_row (is_open n) (row_of id t) taken in
    let m : (a.id ≡ id) × (a.attempt ≡ n) = names_is a id n h in
    let here : row_of a.id t ≡ Some w.0 = ap (λ (i : BatchId). row_of i t) m.0 ∙ w.1 in
    not_open n w.0 w.2 (subst (λ (k : ℕ). RowOver k (Some w.0)) m.1 (subst (RowOver a.attempt) here over.row)))

ending_closes : (a : AttemptOf) (id : BatchId) (n status : ℕ) (result : Option BatchResult) (t : Table) → status ≢ submitted → IsNumbered t → on_row (is_open n) (row_of id t) ≡ None → names a id n ≡ true → IsOver a (with_row id (ended status result) t)
ending_closes a id n status result t closes numbered taken h =
    let w : (row : BatchRow) × (row_of id t ≡ Some row) × (is_open n row ≡ true) = wanted_row (is_open n) (row_of id t) taken in
    let m : (a.id ≡ id) × (a.attempt ≡ n) = names_is a id n h in
    let o : (w.0.status ≡ submitted) × (w.0.attempt ≡ n) = open_means n w.0 w.2 in
    let here : row_of a.id t ≡ Some w.0 = ap (λ (i : BatchId). row_of i t) m.0 ∙ w.1 in
    record {
      given = numbered a.id w.0 here;
      row = subst (RowOver a.attempt) (sym (row_with a.id id (ended status result) t true (and_left (is_id a.id id) (a.attempt == n) h) (λ row. refl) ∙ ap (option_map (ended status result)) here)) (inr (m.1 ∙ sym o.1, closes));
    }

-- ---- items of a lost node

abbrev IsOnce : AttemptOf → List End → Table → Type 0
IsOnce a ends t = (ends ≡ []) ⊎ ((e : End) × (ends ≡ e ∷ []) × IsOver a t)

aborted_closes : aborted ≢ submitted
aborted_closes h = omega (arith, h)

completed_closes : completed ≢ submitted
completed_closes h = omega (arith, h)

failed_closes : failed ≢ submitted
failed_closes h = omega (arith, h)

abbrev lost_ends : AttemptOf → List AttemptOf → List End
lost_ends a items = flat_map (λ item. end_if (names a item.id item.attempt) failed None) items

close_one : (a : AttemptOf) (id : BatchId) (status : ℕ) (result : Option BatchResult) (t : Table) → status ≢ submitted → IsOver a t → IsOver a (with_row id (ended status result) t)
close_one a id status result t closes over = over_with a id (ended status result) t (λ row. refl) (λ same. keeps_ended status result (row_of a.id t) closes) over

off_ends : (b : Bool) (status : ℕ) (result : Option BatchResult) → b ≡ false → end_if b status result ≡ []
off_ends true status result h = absurd (grind (arith, h))
off_ends false status result h = refl

lost_over : (a : AttemptOf) (items : List AttemptOf) (t : Table) → lost_refusal items t ≡ None → IsOver a t → (lost_ends a items ≡ []) × IsOver a (lost items t)
lost_over a [] t taken over = (refl, over)
lost_over a (item ∷ items) t taken over =
    let next = with_row item.id (ended failed None) t in
    let rest = lost_over a items next (or_then (on_row (is_open item.attempt) (row_of item.id t)) _ taken) (close_one a item.id failed None t failed_closes over) in
    (ap₂ (λ (x y : List End). x ++ y) (off_ends (names a item.id item.attempt) failed None (ending_over a item.id item.attempt t (or_first _ (lost_refusal items next) taken) over)) rest.0, rest.1)

once_more : (a : AttemptOf) (b : Bool) (status : ℕ) (result : Option BatchResult) (later : List End) (t : Table) → (b ≡ true → (later ≡ []) × IsOver a t) → (b ≡ false → IsOnce a later t) → IsOnce a (end_if b status result ++ later) t
once_more a true status result later t named other = let n = named refl in inr (record { status = status; result = result }, ap (λ (x : List End). record { status = status; result = result } ∷ x) n.0, n.1)
once_more a false status result later t named other = other refl

lost_once : (a : AttemptOf) (items : List AttemptOf) (t : Table) → IsNumbered t → lost_refusal items t ≡ None → IsOnce a (lost_ends a items) (lost items t)
lost_once a [] t numbered taken = inl refl
lost_once a (item ∷ items) t numbered taken =
    let next = with_row item.id (ended failed None) t in
    let one = or_first (on_row (is_open item.attempt) (row_of item.id t)) (lost_refusal items next) taken in
    let later = or_then (on_row (is_open item.attempt) (row_of item.id t)) (lost_refusal items next) taken in
    once_more a (names a item.id item.attempt) failed None (lost_ends a items) (lost items next)
    (λ h. (lost_over a items next later (ending_closes a item.id item.attempt failed None t failed_closes numbered one h)))
    (λ h. lost_once a items next (numbered_with item.id (ended failed None) t (λ row. refl) numbered) later)

gone_row : (n : ℕ) (b : Bool) (found : Option BatchRow) → RowOver n found → RowOver n (cond b None found)
gone_row n true found over = tt
gone_row n false found over = over

begun_keeps : (n : ℕ) (found : Option BatchRow) → on_row (may_begin n) found ≡ None → Keeps (begun n) found
begun_keeps n None taken = tt
begun_keeps n (Some row) taken = let m : n ≡ row.attempt + 1 = (Decides-eqb n (row.attempt + 1)).0 (and_right _ (n == row.attempt + 1) (unless_none (may_begin n row) (BATCHSTATE row.status) taken)) in inr (omega arith)

-- ---- one record

over_kept : (a : AttemptOf) (r : BatchRecord) (t : Table) → refusal r t ≡ None → IsOver a t → (outcomes_in a r ≡ []) × IsOver a (applied r t)
over_kept a (Create id attempt body) t taken over =
    let new = new_number id t taken in
    (refl, record { given = le_through a.id.number _ _ over.given (raised a.id.owner id t (lt_le _ _ new)); row = subst (RowOver a.attempt) (sym (row_new a.id id attempt body t (not_new a.id id t new over.given))) over.row })
over_kept a (Abort id attempt) t taken over = (off_ends (names a id attempt) aborted None (ending_over a id attempt t taken over), close_one a id aborted None t aborted_closes over)
over_kept a (Discard id) t taken over = (refl, record { given = over.given; row = subst (RowOver a.attempt) (sym (row_gone a.id id t (is_id a.id id) refl)) (gone_row a.attempt (is_id a.id id) (row_of a.id t) over.row) })
over_kept a (Retry id attempt) t taken over = (refl, over_with a id (begun attempt) t (λ row. refl) (λ same. subst (λ (i : BatchId). Keeps (begun attempt) (row_of i t)) (sym (id_is a.id id same)) (begun_keeps attempt (row_of id t) taken)) over)
over_kept a (Finish id attempt result) t taken over = (off_ends (names a id attempt) completed (Some result) (ending_over a id attempt t taken over), close_one a id completed (Some result) t completed_closes over)
over_kept a (Lost items) t taken over = lost_over a items t taken over
over_kept a (Next id) t taken over = (refl, record { given = le_through a.id.number _ _ over.given (raised a.id.owner id t (next_number id t taken)); row = over.row })

ending_once : (a : AttemptOf) (id : BatchId) (n status : ℕ) (result : Option BatchResult) (t : Table) (b : Bool) → names a id n ≡ b → status ≢ submitted → IsNumbered t → on_row (is_open n) (row_of id t) ≡ None → IsOnce a (end_if b status result) (with_row id (ended status result) t)
ending_once a id n status result t true h closes numbered taken = inr (record { status = status; result = result }, refl, ending_closes a id n status result t closes numbered taken h)
ending_once a id n status result t false h closes numbered taken = inl refl

once : (a : AttemptOf) (r : BatchRecord) (t : Table) → IsNumbered t → refusal r t ≡ None → IsOnce a (outcomes_in a r) (applied r t)
once a (Abort id attempt) t numbered taken = ending_once a id attempt aborted None t (names a id attempt) refl aborted_closes numbered taken
once a (Finish id attempt result) t numbered taken = ending_once a id attempt completed (Some result) t (names a id attempt) refl completed_closes numbered taken
once a (Lost items) t numbered taken = lost_once a items t numbered taken
once a r t numbered taken = inl refl

-- ---- lists of records

over_all : (a : AttemptOf) (rs : List BatchRecord) (t : Table) → first_refusal rs t ≡ None → IsOver a t → outcomes a rs ≡ []
over_all a [] t taken over = refl
over_all a (r ∷ rs) t taken over =
    let one = over_kept a r t (or_first (refusal r t) (first_refusal rs (applied r t)) taken) over in
    ap₂ (λ (x y : List End). x ++ y) one.0 (over_all a rs (applied r t) (or_then (refusal r t) _ taken) one.1)

over_behind : (a : AttemptOf) (rs : List BatchRecord) (t : Table) → first_refusal rs t ≡ None → IsOver a t → IsOver a (after rs t)
over_behind a [] t taken over = over
over_behind a (r ∷ rs) t taken over = over_behind a rs (applied r t) (or_then (refusal r t) _ taken) (over_kept a r t (or_first (refusal r t) (first_refusal rs (applied r t)) taken) over).1

then_once : (a : AttemptOf) (first later : List End) (t u : Table) → IsOnce a first t → (IsOver a t → (later ≡ []) × IsOver a u) → IsOnce a later u → IsOnce a (first ++ later) u
then_once a first later t u one over rest = elim one [
  | inl none ↦ subst (λ (x : List End). IsOnce a (x ++ later) u) (sym none) rest
  | inr some ↦ let o = over some.2 in inr (some.0, ap₂ (λ (x y : List End). x ++ y) some.1 o.0, o.1)
]

once_all : (a : AttemptOf) (rs : List BatchRecord) (t : Table) → IsNumbered t → first_refusal rs t ≡ None → IsOnce a (outcomes a rs) (after rs t)
once_all a [] t numbered taken = inl refl
once_all a (r ∷ rs) t numbered taken =
    let first = or_first (refusal r t) (first_refusal rs (applied r t)) taken in
    let later = or_then (refusal r t) (first_refusal rs (applied r t)) taken in
    then_once a (outcomes_in a r) (outcomes a rs) (applied r t) (after rs (applied r t)) (once a r t numbered first)
    (λ over. (over_all a rs (applied r t) later over, over_behind a rs (applied r t) later over))
    (once_all a rs (applied r t) (numbered_kept r t numbered first) later)

once_length : (a : AttemptOf) (ends : List End) (t : Table) → IsOnce a ends t → length ends ≤ 1
once_length a ends t one = elim one [ inl none ↦ omega (arith, ap length none) | inr some ↦ omega (arith, ap length some.1) ]

pub at_most_one : (a : AttemptOf) (rs : List BatchRecord) → first_refusal rs no_rows ≡ None → length (outcomes a rs) ≤ 1
at_most_one a rs taken = once_length a (outcomes a rs) (after rs no_rows) (once_all a rs no_rows no_rows_numbered taken)

over_from : (a : AttemptOf) (e : End) (ends : List End) (t : Table) → IsOnce a ends t → ends ≡ e ∷ [] → IsOver a t
over_from a e ends t one is = elim one [ inl none ↦ absurd (grind (arith, none, is)) | inr some ↦ some.2 ]

pub stays : (a : AttemptOf) (e : End) (rs more : List BatchRecord) → first_refusal (rs ++ more) no_rows ≡ None → outcomes a rs ≡ e ∷ [] → outcomes a (rs ++ more) ≡ e ∷ []
stays a e rs more taken is =
    let both = sym (refusal_append rs more no_rows) ∙ taken in
    let over = over_from a e (outcomes a rs) (after rs no_rows) (once_all a rs no_rows no_rows_numbered (or_first (first_refusal rs no_rows) _ both)) is in
    flat_map-append (outcomes_in a) rs more ∙ ap₂ (λ (x y : List End). x ++ y) is (over_all a more (after rs no_rows) (or_then (first_refusal rs no_rows) _ both) over)
