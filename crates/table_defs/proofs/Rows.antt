-- What a record does to the row of a batch and to the greatest number of an owner.
use Rattle.std.proofs.Common.{◌≡◌, refl, sym, ap, ◌∙◌, subst, ℕ, ◌<◌, ◌≤◌, Bool, true, false, not, List, [], ◌∷◌, ◌++◌, Option, Some, None, cond, arith}
use Rattle.std.specs.Prelude.{filter, find, nat_le, nat_lt, option_map}
use Rattle.std.proofs.lemmas.Bool.Decides.{nat_tests}
use Rattle.base_names.specs.declared.id.BatchId.{BatchId}
use Rattle.base_names.specs.declared.refusal.Refusal.{Refusal}
use Rattle.base_names.specs.declared.refusal.Refusal.TheVariants.{BATCH, BATCHSTATE}
use Rattle.model_data.specs.declared.batch.AttemptOf.{AttemptOf}
use Rattle.model_data.specs.declared.batch.BatchBody.{BatchBody}
use Rattle.model_data.specs.declared.batch.BatchRecord.{BatchRecord}
use Rattle.model_data.specs.declared.batch.BatchRecord.TheVariants.{Create, Abort, Discard, Retry, Finish, Lost, Next}
use Rattle.model_data.specs.declared.batch.BatchRow.{BatchRow}
use Rattle.table_defs.specs.Lists.{changed}
use Rattle.table_defs.specs.Names.{Owner, is_id, is_owner}
use Rattle.table_defs.specs.Table.{Mark, Table, aborted, applied, begun, completed, ended, failed, greatest, lost, new_row, no_rows, number_of, row_of, with_mark, with_row, without_row}
use Rattle.table_defs.specs.Taken.{on_row, refusal, unless}
use Rattle.table_defs.proofs.Lists.{find_filter, find_push}
use Rattle.table_defs.proofs.Names.{bool_off, id_apart, id_is, owner_is, owner_refl, owner_without}

-- ---- look-ups in a changed list

find_changed : {A : Type 0} (test : A → Bool) (f : A → A) (stays : (x : A) → test (f x) ≡ test x) (xs : List A) → find test (changed test f xs) ≡ option_map f (find test xs)
find_changed test f stays [] = refl
find_changed test f stays (x ∷ xs) = grind (arith, stays x, find_changed test f stays xs)

find_changed_other : {A : Type 0} (test other : A → Bool) (f : A → A) (stays : (x : A) → test (f x) ≡ test x) (others : (x : A) → test x ≡ true → other x ≡ false) (xs : List A) → find test (changed other f xs) ≡ find test xs
find_changed_other test other f stays others [] = refl
find_changed_other test other f stays others (x ∷ xs) = grind (arith, stays x, others x, find_changed_other test other f stays others xs)

pub find_push_other : {A : Type 0} (test : A → Bool) (x : A) (off : test x ≡ false) (xs : List A) → find test (xs ++ x ∷ []) ≡ find test xs
find_push_other test x off [] = rw off
find_push_other test x off (y ∷ ys) = grind (arith, find_push_other test x off ys)

pub find_one : {A : Type 0} (test : A → Bool) (x : A) → test x ≡ true → find test (x ∷ []) ≡ Some x
find_one test x h = rw h

pub find_none : {A : Type 0} (test : A → Bool) (xs : List A) → find test (filter (λ x. not (test x)) xs) ≡ None
find_none test [] = refl
find_none test (x ∷ xs) = grind (arith, find_none test xs)

-- ---- rows and numbers of a changed table

pub row_with : (a id : BatchId) (f : BatchRow → BatchRow) (t : Table) (b : Bool) → is_id a id ≡ b → ((row : BatchRow) → (f row).id ≡ row.id) → row_of a (with_row id f t) ≡ cond b (option_map f (row_of a t)) (row_of a t)
row_with a id f t true same stays = subst (λ (i : BatchId). row_of a (with_row i f t) ≡ option_map f (row_of a t)) (id_is a id same) (find_changed (λ row. is_id a row.id) f (λ row. ap (is_id a) (stays row)) t.rows)
row_with a id f t false apart stays = find_changed_other (λ row. is_id a row.id) (λ row. is_id id row.id) f (λ row. ap (is_id a) (stays row)) (λ row same. id_apart a id row.id apart same) t.rows

pub row_new : (a id : BatchId) (attempt : ℕ) (body : BatchBody) (t : Table) → is_id a id ≡ false → row_of a (applied (Create id attempt body) t) ≡ row_of a t
row_new a id attempt body t apart = find_push_other (λ row. is_id a row.id) (new_row id attempt body) apart t.rows

pub row_gone : (a id : BatchId) (t : Table) (b : Bool) → is_id a id ≡ b → row_of a (without_row id t) ≡ cond b None (row_of a t)
row_gone a id t true same = subst (λ (i : BatchId). row_of a (without_row i t) ≡ None) (id_is a id same) (find_none (λ row. is_id a row.id) t.rows)
row_gone a id t false apart = find_filter (λ row. not (is_id id row.id)) (λ row. is_id a row.id) (λ row same. ap not (id_apart a id row.id apart same)) t.rows

pub mark_raised : (o : Owner) (id : BatchId) (marks : List Mark) (b : Bool) → is_owner o id.owner ≡ b → number_of (find (λ mark. is_owner o mark.owner) (with_mark id marks)) ≡ cond b id.number (number_of (find (λ mark. is_owner o mark.owner) marks))
mark_raised o id marks true same = ap number_of (find_push (λ mark. is_owner o mark.owner) (record { owner = id.owner; number = id.number }) (filter (λ mark. not (is_owner id.owner mark.owner)) marks)
    (subst (λ (p : Owner). find (λ mark. is_owner o mark.owner) (filter (λ mark. not (is_owner p mark.owner)) marks) ≡ None) (owner_is o id.owner same) (find_none (λ mark. is_owner o mark.owner) marks)) ∙ find_one (λ mark. is_owner o mark.owner) (record { owner = id.owner; number = id.number }) same)
mark_raised o id marks false apart = ap number_of (find_push_other (λ mark. is_owner o mark.owner) (record { owner = id.owner; number = id.number }) apart (filter (λ mark. not (is_owner id.owner mark.owner)) marks)
    ∙ find_filter (λ mark. not (is_owner id.owner mark.owner)) (λ mark. is_owner o mark.owner) (λ mark same. ap not (owner_without o id.owner mark.owner apart same)) marks)

-- ---- what is wanted of a row

pub unless_none : (b : Bool) (r : Refusal) → unless b r ≡ None → b ≡ true
unless_none true r h = refl
unless_none false r h = absurd (grind (arith, h))

-- what a row that is wanted is
pub wanted_row : (wanted : BatchRow → Bool) (found : Option BatchRow) → on_row wanted found ≡ None → (row : BatchRow) × (found ≡ Some row) × (wanted row ≡ true)
wanted_row wanted None h = absurd (grind (arith, h))
wanted_row wanted (Some row) h = (row, refl, unless_none (wanted row) (BATCHSTATE row.status) h)

-- ---- numbers

lt_true : (a b : ℕ) → nat_lt a b ≡ true → a < b
lt_true a b h = grind (arith, nat_tests, h)

le_true : (a b : ℕ) → nat_le a b ≡ true → a ≤ b
le_true a b h = grind (arith, nat_tests, h)

pub le_self : (n : ℕ) → n ≤ n
le_self n = omega arith

raised_by : (o : Owner) (id : BatchId) (t : Table) (b : Bool) → is_owner o id.owner ≡ b → greatest id.owner t ≤ id.number → greatest o t ≤ number_of (find (λ mark. is_owner o mark.owner) (with_mark id t.marks))
raised_by o id t true same le = subst (λ (n : ℕ). greatest o t ≤ n) (sym (mark_raised o id t.marks true same)) (subst (λ (p : Owner). greatest p t ≤ id.number) (sym (owner_is o id.owner same)) le)
raised_by o id t false apart le = subst (λ (n : ℕ). greatest o t ≤ n) (sym (mark_raised o id t.marks false apart)) (le_self (greatest o t))

pub raised : (o : Owner) (id : BatchId) (t : Table) → greatest id.owner t ≤ id.number → greatest o t ≤ number_of (find (λ mark. is_owner o mark.owner) (with_mark id t.marks))
raised o id t le = raised_by o id t (is_owner o id.owner) refl le

pub le_through : (a b c : ℕ) → a ≤ b → b ≤ c → a ≤ c
le_through a b c p q = omega arith

pub created_number : (id : BatchId) (t : Table) → id.number ≤ number_of (find (λ mark. is_owner id.owner mark.owner) (with_mark id t.marks))
created_number id t = subst (λ (n : ℕ). id.number ≤ n) (sym (mark_raised id.owner id t.marks true (owner_refl id.owner))) (le_self id.number)

pub new_number : (id : BatchId) (t : Table) → unless (nat_lt (greatest id.owner t) id.number) BATCH ≡ None → greatest id.owner t < id.number
new_number id t taken = lt_true (greatest id.owner t) id.number (unless_none (nat_lt (greatest id.owner t) id.number) BATCH taken)

pub next_number : (id : BatchId) (t : Table) → unless (nat_le (greatest id.owner t) id.number) BATCH ≡ None → greatest id.owner t ≤ id.number
next_number id t taken = le_true (greatest id.owner t) id.number (unless_none (nat_le (greatest id.owner t) id.number) BATCH taken)

pub lt_le : (a b : ℕ) → a < b → a ≤ b
lt_le a b h = omega arith

-- a new batch is not one whose number is given
pub not_new : (a id : BatchId) (t : Table) → greatest id.owner t < id.number → a.number ≤ greatest a.owner t → is_id a id ≡ false
not_new a id t new given = bool_off (is_id a id) (λ h. let below : id.number ≤ greatest id.owner t = subst (λ (i : BatchId). i.number ≤ greatest i.owner t) (id_is a id h) given in omega arith)

-- ---- each row has a number that was given

abbrev pub IsNumbered : Table → Type 0
IsNumbered t = (id : BatchId) (row : BatchRow) → row_of id t ≡ Some row → id.number ≤ greatest id.owner t

none_some : (f : BatchRow → BatchRow) (b : Bool) {row : BatchRow} → cond b (option_map f None) None ≡ Some row → ⊥
none_some f true is = grind (arith, is)
none_some f false is = grind (arith, is)

mapped_number : (f : BatchRow → BatchRow) {a : ℕ} (b : Bool) (found : Option BatchRow) {g : ℕ} → ((row : BatchRow) → found ≡ Some row → a ≤ g) → {row : BatchRow} → cond b (option_map f found) found ≡ Some row → a ≤ g
mapped_number f b None numbered is = absurd (none_some f b is)
mapped_number f b (Some row) numbered is = numbered row refl

pub numbered_with : (id : BatchId) (f : BatchRow → BatchRow) (t : Table) → ((row : BatchRow) → (f row).id ≡ row.id) → IsNumbered t → IsNumbered (with_row id f t)
numbered_with id f t stays numbered a row is = mapped_number f (is_id a id) (row_of a t) (numbered a) (sym (row_with a id f t (is_id a id) refl stays) ∙ is)

gone_number : (b : Bool) (found : Option BatchRow) {a g : ℕ} → ((row : BatchRow) → found ≡ Some row → a ≤ g) → (row : BatchRow) → cond b None found ≡ Some row → a ≤ g
gone_number true found numbered row is = absurd (grind (arith, is))
gone_number false found numbered row is = numbered row is

pub numbered_lost : (items : List AttemptOf) (t : Table) → IsNumbered t → IsNumbered (lost items t)
numbered_lost [] t numbered = numbered
numbered_lost (item ∷ items) t numbered = numbered_lost items (with_row item.id (ended failed None) t) (numbered_with item.id (ended failed None) t (λ row. refl) numbered)

created_numbered : (id a : BatchId) (attempt : ℕ) (body : BatchBody) (t : Table) (b : Bool) → is_id a id ≡ b → IsNumbered t → greatest id.owner t < id.number → (row : BatchRow) → row_of a (applied (Create id attempt body) t) ≡ Some row → a.number ≤ greatest a.owner (applied (Create id attempt body) t)
created_numbered id a attempt body t true same numbered new row is = subst (λ (i : BatchId). i.number ≤ greatest i.owner (applied (Create id attempt body) t)) (sym (id_is a id same)) (created_number id t)
created_numbered id a attempt body t false apart numbered new row is = le_through a.number _ _ (numbered a row (sym (row_new a id attempt body t apart) ∙ is)) (raised a.owner id t (lt_le _ _ new))

pub numbered_kept : (r : BatchRecord) (t : Table) → IsNumbered t → refusal r t ≡ None → IsNumbered (applied r t)
numbered_kept (Create id attempt body) t numbered taken = λ a row is. created_numbered id a attempt body t (is_id a id) refl numbered (new_number id t taken) row is
numbered_kept (Abort id attempt) t numbered taken = numbered_with id (ended aborted None) t (λ row. refl) numbered
numbered_kept (Discard id) t numbered taken = λ a row is. gone_number (is_id a id) (row_of a t) (numbered a) row (sym (row_gone a id t (is_id a id) refl) ∙ is)
numbered_kept (Retry id attempt) t numbered taken = numbered_with id (begun attempt) t (λ row. refl) numbered
numbered_kept (Finish id attempt result) t numbered taken = numbered_with id (ended completed (Some result)) t (λ row. refl) numbered
numbered_kept (Lost items) t numbered taken = numbered_lost items t numbered
numbered_kept (Next id) t numbered taken = λ a row is. le_through a.number _ _ (numbered a row is) (raised a.owner id t (next_number id t taken))

pub no_rows_numbered : IsNumbered no_rows
no_rows_numbered id row is = absurd (grind (arith, is))
