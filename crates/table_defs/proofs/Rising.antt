-- Numbers and attempts only grow.
use Rattle.std.proofs.Common.{◌≡◌, refl, sym, ap, ◌∙◌, subst, ℕ, ◌+◌, ◌<◌, ◌≤◌, Bool, true, false, ◌==◌, List, [], ◌∷◌, ◌++◌, Option, Some, None, cond, arith}
use Rattle.std.specs.Prelude.{find, option_map}
use Rattle.std.proofs.lemmas.Bool.Decides.{Decides-eqb}
use Rattle.base_names.specs.declared.id.BatchId.{BatchId}
use Rattle.base_names.specs.declared.refusal.Refusal.TheVariants.{BATCHSTATE}
use Rattle.model_data.specs.declared.batch.AttemptOf.{AttemptOf}
use Rattle.model_data.specs.declared.batch.BatchBody.{BatchBody}
use Rattle.model_data.specs.declared.batch.BatchRecord.{BatchRecord}
use Rattle.model_data.specs.declared.batch.BatchRecord.TheVariants.{Create, Abort, Discard, Retry, Finish, Lost, Next}
use Rattle.model_data.specs.declared.batch.BatchRow.{BatchRow}
use Rattle.table_defs.specs.Names.{Owner, is_id, is_owner}
use Rattle.table_defs.specs.Outcomes.{IsRising, IsRisingFrom, attempts_begun, begun_in, created_in, numbers_given, one_if}
use Rattle.table_defs.specs.Table.{Table, aborted, applied, begun, completed, ended, failed, greatest, lost, new_row, no_rows, number_of, row_of, with_mark, with_row}
use Rattle.table_defs.specs.Taken.{AreTaken, first_refusal, may_begin, on_row, refusal}
use Rattle.table_defs.proofs.Lists.{find_push}
use Rattle.table_defs.proofs.Names.{and_right, id_is, owner_is}
use Rattle.table_defs.proofs.Records.{or_first, or_then}
use Rattle.table_defs.proofs.Rows.{created_number, find_one, le_self, le_through, lt_le, mark_raised, new_number, next_number, not_new, raised, row_gone, row_new, row_with, unless_none, wanted_row}

-- ---- an owner's numbers

rising_up : (m n : ℕ) (ns : List ℕ) → m ≤ n → IsRisingFrom n ns → IsRisingFrom m ns
rising_up m n [] le h = tt
rising_up m n (k ∷ ks) le h = let above : n < k = h.0 in (omega arith, h.1)

lost_marks : (u : Owner) (items : List AttemptOf) (t : Table) → greatest u (lost items t) ≡ greatest u t
lost_marks u [] t = refl
lost_marks u (item ∷ items) t = lost_marks u items (with_row item.id (ended failed None) t)

greatest_kept : (u : Owner) (r : BatchRecord) (t : Table) → refusal r t ≡ None → greatest u t ≤ greatest u (applied r t)
greatest_kept u (Create id attempt body) t taken = raised u id t (lt_le _ _ (new_number id t taken))
greatest_kept u (Lost items) t taken = subst (λ (n : ℕ). greatest u t ≤ n) (sym (lost_marks u items t)) (le_self (greatest u t))
greatest_kept u (Next id) t taken = raised u id t (next_number id t taken)
greatest_kept u r t taken = le_self (greatest u t)

created_rises : (u : Owner) (id : BatchId) (t : Table) (ns : List ℕ) (b : Bool) → is_owner u id.owner ≡ b → greatest id.owner t < id.number → IsRisingFrom (number_of (find (λ mark. is_owner u mark.owner) (with_mark id t.marks))) ns → IsRisingFrom (greatest u t) (one_if b id.number ++ ns)
created_rises u id t ns true same new h = (subst (λ (o : Owner). greatest o t < id.number) (sym (owner_is u id.owner same)) new, subst (λ (n : ℕ). IsRisingFrom n ns) (mark_raised u id t.marks true same) h)
created_rises u id t ns false apart new h = rising_up (greatest u t) _ ns (raised u id t (lt_le _ _ new)) h

record_rises : (u : Owner) (r : BatchRecord) (t : Table) (ns : List ℕ) → refusal r t ≡ None → IsRisingFrom (greatest u (applied r t)) ns → IsRisingFrom (greatest u t) (created_in u r ++ ns)
record_rises u (Create id attempt body) t ns taken h = created_rises u id t ns (is_owner u id.owner) refl (new_number id t taken) h
record_rises u r t ns taken h = rising_up (greatest u t) (greatest u (applied r t)) ns (greatest_kept u r t taken) h

pub numbers_rise : (u : Owner) (rs : List BatchRecord) (t : Table) → AreTaken rs t → IsRisingFrom (greatest u t) (numbers_given u rs)
numbers_rise u [] t taken = tt
numbers_rise u (r ∷ rs) t taken = record_rises u r t (numbers_given u rs) (or_first (refusal r t) (first_refusal rs (applied r t)) taken) (numbers_rise u rs (applied r t) (or_then (refusal r t) _ taken))

-- ---- the attempts at a batch whose number is given

-- Where the batch is there each later attempt is above its last one, and where it is gone there is none.
abbrev Rises : Option BatchRow → List ℕ → Type 0
Rises None ns = ns ≡ []
Rises (Some row) ns = IsRisingFrom row.attempt ns

mapped_rises : (f : BatchRow → BatchRow) → ((row : BatchRow) → (f row).attempt ≡ row.attempt) → (b : Bool) (found : Option BatchRow) (ns : List ℕ) → Rises (cond b (option_map f found) found) ns → Rises found ns
mapped_rises f keeps false found ns h = h
mapped_rises f keeps true None ns h = h
mapped_rises f keeps true (Some row) ns h = subst (λ (n : ℕ). IsRisingFrom n ns) (keeps row) h

kept_rises : (a id : BatchId) (f : BatchRow → BatchRow) (t : Table) (ns : List ℕ) → ((row : BatchRow) → (f row).id ≡ row.id) → ((row : BatchRow) → (f row).attempt ≡ row.attempt) → Rises (row_of a (with_row id f t)) ns → Rises (row_of a t) ns
kept_rises a id f t ns stays keeps h = mapped_rises f keeps (is_id a id) (row_of a t) ns (subst (λ (r : Option BatchRow). Rises r ns) (row_with a id f t (is_id a id) refl stays) h)

lost_rises : (a : BatchId) (items : List AttemptOf) (t : Table) (ns : List ℕ) → Rises (row_of a (lost items t)) ns → Rises (row_of a t) ns
lost_rises a [] t ns h = h
lost_rises a (item ∷ items) t ns h = kept_rises a item.id (ended failed None) t ns (λ row. refl) (λ row. refl) (lost_rises a items (with_row item.id (ended failed None) t) ns h)

none_rises : (n : ℕ) (ns : List ℕ) → ns ≡ [] → IsRisingFrom n ns
none_rises n [] h = tt
none_rises n (m ∷ ms) h = absurd (grind (arith, h))

gone_rises : (b : Bool) (found : Option BatchRow) (ns : List ℕ) → Rises (cond b None found) ns → Rises found ns
gone_rises false found ns h = h
gone_rises true None ns h = h
gone_rises true (Some row) ns h = none_rises row.attempt ns h

next_attempt : (n : ℕ) (row : BatchRow) → on_row (may_begin n) (Some row) ≡ None → n ≡ row.attempt + 1
next_attempt n row taken = (Decides-eqb n (row.attempt + 1)).0 (and_right _ (n == row.attempt + 1) (unless_none (may_begin n row) (BATCHSTATE row.status) taken))

retried_rises : (n : ℕ) (found : Option BatchRow) (ns : List ℕ) → on_row (may_begin n) found ≡ None → Rises (option_map (begun n) found) ns → Rises found (n ∷ ns)
retried_rises n None ns taken h = absurd (grind (arith, taken))
retried_rises n (Some row) ns taken h = let next : n ≡ row.attempt + 1 = next_attempt n row taken in (omega arith, h)

retry_rises : (a id : BatchId) (n : ℕ) (t : Table) (ns : List ℕ) (b : Bool) → is_id a id ≡ b → on_row (may_begin n) (row_of id t) ≡ None → Rises (cond b (option_map (begun n) (row_of a t)) (row_of a t)) ns → Rises (row_of a t) (one_if b n ++ ns)
retry_rises a id n t ns true same taken h = retried_rises n (row_of a t) ns (subst (λ (i : BatchId). on_row (may_begin n) (row_of i t) ≡ None) (sym (id_is a id same)) taken) h
retry_rises a id n t ns false apart taken h = h

begins : (a : BatchId) (r : BatchRecord) (t : Table) (ns : List ℕ) → refusal r t ≡ None → a.number ≤ greatest a.owner t → Rises (row_of a (applied r t)) ns → Rises (row_of a t) (begun_in a r ++ ns)
begins a (Create id attempt body) t ns taken given h =
    let apart = not_new a id t (new_number id t taken) given in
    subst (λ (b : Bool). Rises (row_of a t) (one_if b attempt ++ ns)) (sym apart) (subst (λ (r : Option BatchRow). Rises r ns) (row_new a id attempt body t apart) h)
begins a (Abort id attempt) t ns taken given h = kept_rises a id (ended aborted None) t ns (λ row. refl) (λ row. refl) h
begins a (Discard id) t ns taken given h = gone_rises (is_id a id) (row_of a t) ns (subst (λ (r : Option BatchRow). Rises r ns) (row_gone a id t (is_id a id) refl) h)
begins a (Retry id attempt) t ns taken given h = retry_rises a id attempt t ns (is_id a id) refl taken (subst (λ (r : Option BatchRow). Rises r ns) (row_with a id (begun attempt) t (is_id a id) refl (λ row. refl)) h)
begins a (Finish id attempt result) t ns taken given h = kept_rises a id (ended completed (Some result)) t ns (λ row. refl) (λ row. refl) h
begins a (Lost items) t ns taken given h = lost_rises a items t ns h
begins a (Next id) t ns taken given h = h

nothing_rises : (found : Option BatchRow) → Rises found []
nothing_rises None = refl
nothing_rises (Some row) = tt

given_rises : (a : BatchId) (rs : List BatchRecord) (t : Table) → AreTaken rs t → a.number ≤ greatest a.owner t → Rises (row_of a t) (attempts_begun a rs)
given_rises a [] t taken given = nothing_rises (row_of a t)
given_rises a (r ∷ rs) t taken given =
    let first = or_first (refusal r t) (first_refusal rs (applied r t)) taken in
    begins a r t (attempts_begun a rs) first given (given_rises a rs (applied r t) (or_then (refusal r t) _ taken) (le_through a.number _ _ given (greatest_kept a.owner r t first)))

-- ---- all attempts at a batch

none_mapped : (f : BatchRow → BatchRow) (b : Bool) (found : Option BatchRow) → found ≡ None → cond b (option_map f found) found ≡ None
none_mapped f true found h = ap (option_map f) h
none_mapped f false found h = h

none_with : (a id : BatchId) (f : BatchRow → BatchRow) (t : Table) → ((row : BatchRow) → (f row).id ≡ row.id) → row_of a t ≡ None → row_of a (with_row id f t) ≡ None
none_with a id f t stays h = row_with a id f t (is_id a id) refl stays ∙ none_mapped f (is_id a id) (row_of a t) h

none_lost : (a : BatchId) (items : List AttemptOf) (t : Table) → row_of a t ≡ None → row_of a (lost items t) ≡ None
none_lost a [] t h = h
none_lost a (item ∷ items) t h = none_lost a items (with_row item.id (ended failed None) t) (none_with a item.id (ended failed None) t (λ row. refl) h)

none_gone : (b : Bool) (found : Option BatchRow) → found ≡ None → cond b None found ≡ None
none_gone true found h = refl
none_gone false found h = h

-- A batch that is not there is not retried.
not_retried : (a id : BatchId) (n : ℕ) (t : Table) (b : Bool) → is_id a id ≡ b → row_of a t ≡ None → on_row (may_begin n) (row_of id t) ≡ None → one_if b n ≡ []
not_retried a id n t true same none taken =
    let w : (row : BatchRow) × (row_of id t ≡ Some row) × (may_begin n row ≡ true) = wanted_row (may_begin n) (row_of id t) taken in
    let here : row_of a t ≡ Some w.0 = ap (λ (i : BatchId). row_of i t) (id_is a id same) ∙ w.1 in
    absurd (grind (arith, none, here))
not_retried a id n t false apart none taken = refl

created_row : (a id : BatchId) (attempt : ℕ) (body : BatchBody) (t : Table) → is_id a id ≡ true → row_of a t ≡ None → row_of a (applied (Create id attempt body) t) ≡ Some (new_row id attempt body)
created_row a id attempt body t same none = find_push (λ row. is_id a row.id) (new_row id attempt body) t.rows none ∙ find_one (λ row. is_id a row.id) (new_row id attempt body) same

-- the attempts that one record begins, and then those of the later ones
abbrev Later : BatchId → List BatchRecord → Table → Type 0
Later a rs t = (row_of a t ≡ None → IsRising (attempts_begun a rs)) × (a.number ≤ greatest a.owner t → Rises (row_of a t) (attempts_begun a rs))

created_all : (a id : BatchId) (attempt : ℕ) (body : BatchBody) (t : Table) (rs : List BatchRecord) (b : Bool) → is_id a id ≡ b → row_of a t ≡ None → Later a rs (applied (Create id attempt body) t) → IsRising (one_if b attempt ++ attempts_begun a rs)
created_all a id attempt body t rs true same none later =
    let given : a.number ≤ greatest a.owner (applied (Create id attempt body) t) = subst (λ (i : BatchId). i.number ≤ greatest i.owner (applied (Create id attempt body) t)) (sym (id_is a id same)) (created_number id t) in
    subst (λ (r : Option BatchRow). Rises r (attempts_begun a rs)) (created_row a id attempt body t same none) (later.1 given)
created_all a id attempt body t rs false apart none later = later.0 (row_new a id attempt body t apart ∙ none)

begins_all : (a : BatchId) (r : BatchRecord) (rs : List BatchRecord) (t : Table) → refusal r t ≡ None → row_of a t ≡ None → Later a rs (applied r t) → IsRising (begun_in a r ++ attempts_begun a rs)
begins_all a (Create id attempt body) rs t taken none later = created_all a id attempt body t rs (is_id a id) refl none later
begins_all a (Abort id attempt) rs t taken none later = later.0 (none_with a id (ended aborted None) t (λ row. refl) none)
begins_all a (Discard id) rs t taken none later = later.0 (row_gone a id t (is_id a id) refl ∙ none_gone (is_id a id) (row_of a t) none)
begins_all a (Retry id attempt) rs t taken none later = subst (λ (ns : List ℕ). IsRising (ns ++ attempts_begun a rs)) (sym (not_retried a id attempt t (is_id a id) refl none taken)) (later.0 (none_with a id (begun attempt) t (λ row. refl) none))
begins_all a (Finish id attempt result) rs t taken none later = later.0 (none_with a id (ended completed (Some result)) t (λ row. refl) none)
begins_all a (Lost items) rs t taken none later = later.0 (none_lost a items t none)
begins_all a (Next id) rs t taken none later = later.0 none

all_rise : (a : BatchId) (rs : List BatchRecord) (t : Table) → AreTaken rs t → row_of a t ≡ None → IsRising (attempts_begun a rs)
all_rise a [] t taken none = tt
all_rise a (r ∷ rs) t taken none =
    let rest = or_then (refusal r t) (first_refusal rs (applied r t)) taken in
    begins_all a r rs t (or_first (refusal r t) (first_refusal rs (applied r t)) taken) none (all_rise a rs (applied r t) rest, given_rises a rs (applied r t) rest)

pub attempts_rise : (a : BatchId) (rs : List BatchRecord) → AreTaken rs no_rows → IsRising (attempts_begun a rs)
attempts_rise a rs taken = all_rise a rs no_rows taken refl
