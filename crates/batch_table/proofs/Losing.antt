-- Attempts that end with their node, one after the other.
use Rattle.std.proofs.Common.{◌≡◌, ◌||◌, refl, sym, ap, ◌∙◌, ℕ, Bool, true, false, List, [], ◌∷◌, ◌++◌, Option, Some, None, Result, Ok, Err, cond, arith, suc, ◌+◌, ◌<◌, length, get_or, take, drop}
use Rattle.std.specs.List.{list_any}
use Rattle.std.proofs.Math.Seq.{drop-cons, take-suc}
use Rattle.std.proofs.lemmas.List.{take-append-drop}
use Rattle.batch_table.specs.Lookups.{Answers}
use Rattle.std.specs.Prelude.{option_map}
use Rattle.base_names.specs.declared.id.BatchId.{BatchId}
use Rattle.base_names.specs.declared.refusal.Refusal.{Refusal}
use Rattle.base_names.specs.declared.refusal.Refusal.TheVariants.{BATCHSTATE}
use Rattle.model_data.specs.declared.batch.AttemptOf.{AttemptOf}
use Rattle.model_data.specs.declared.batch.BatchRow.{BatchRow}
use Rattle.table_defs.specs.Names.{is_id}
use Rattle.table_defs.specs.Table.{Table, ended, failed, lost, row_of, with_row}
use Rattle.table_defs.specs.Taken.{is_open, lost_refusal, on_row, or_else}
use Rattle.table_defs.proofs.Names.{id_is}
use Rattle.table_defs.proofs.Records.{both_none, or_first, or_then}
use Rattle.table_defs.proofs.Rows.{row_with, wanted_row}

abbrev pub are_among : List AttemptOf → BatchId → Bool
are_among items id = list_any (λ item. is_id id item.id) items

pub lost_append : (xs ys : List AttemptOf) (t : Table) → lost (xs ++ ys) t ≡ lost ys (lost xs t)
lost_append [] ys t = refl
lost_append (x ∷ xs) ys t = lost_append xs ys (with_row x.id (ended failed None) t)

or_assoc : (a b c : Option Refusal) → or_else a (or_else b c) ≡ or_else (or_else a b) c
or_assoc None b c = refl
or_assoc (Some a) b c = refl

refusal_append : (xs ys : List AttemptOf) (t : Table) → lost_refusal (xs ++ ys) t ≡ or_else (lost_refusal xs t) (lost_refusal ys (lost xs t))
refusal_append [] ys t = refl
refusal_append (x ∷ xs) ys t = ap (or_else (on_row (is_open x.attempt) (row_of x.id t))) (refusal_append xs ys (with_row x.id (ended failed None) t)) ∙ or_assoc (on_row (is_open x.attempt) (row_of x.id t)) _ _

twice : (b c : Bool) (found : Option BatchRow) → cond c (option_map (ended failed None) (cond b (option_map (ended failed None) found) found)) (cond b (option_map (ended failed None) found) found) ≡ cond (b || c) (option_map (ended failed None) found) found
twice true true None = refl
twice true true (Some row) = refl
twice true false found = refl
twice false c found = refl

-- a row of the table that these leave
row_lost : (id : BatchId) (items : List AttemptOf) (t : Table) → row_of id (lost items t) ≡ cond (are_among items id) (option_map (ended failed None) (row_of id t)) (row_of id t)
row_lost id [] t = refl
row_lost id (item ∷ items) t =
    row_lost id items (with_row item.id (ended failed None) t)
    ∙ ap (λ (r : Option BatchRow). cond (are_among items id) (option_map (ended failed None) r) r) (row_with id item.id (ended failed None) t (is_id id item.id) refl (λ row. refl))
    ∙ twice (is_id id item.id) (are_among items id) (row_of id t)

-- each of them has a row
there_by : (id : BatchId) (item : AttemptOf) (items : List AttemptOf) (t : Table) (b : Bool) → is_id id item.id ≡ b → on_row (is_open item.attempt) (row_of item.id t) ≡ None → are_among (item ∷ items) id ≡ true → (are_among items id ≡ true → (row : BatchRow) × (row_of id (with_row item.id (ended failed None) t) ≡ Some row)) → (row : BatchRow) × (row_of id t ≡ Some row)
there_by id item items t true same first among rest =
    let w = wanted_row (is_open item.attempt) (row_of item.id t) first in
    (w.0, ap (λ (i : BatchId). row_of i t) (id_is id item.id same) ∙ w.1)
there_by id item items t false apart first among rest =
    let behind : are_among items id ≡ true = grind (arith, apart, among) in
    let w = rest behind in
    (w.0, sym (row_with id item.id (ended failed None) t false apart (λ row. refl)) ∙ w.1)

row_there : (id : BatchId) (items : List AttemptOf) (t : Table) → lost_refusal items t ≡ None → are_among items id ≡ true → (row : BatchRow) × (row_of id t ≡ Some row)
row_there id [] t taken among = absurd (grind (arith, among))
row_there id (item ∷ items) t taken among =
    let first = or_first (on_row (is_open item.attempt) (row_of item.id t)) (lost_refusal items (with_row item.id (ended failed None) t)) taken in
    let rest = or_then (on_row (is_open item.attempt) (row_of item.id t)) (lost_refusal items (with_row item.id (ended failed None) t)) taken in
    there_by id item items t (is_id id item.id) refl first among (λ behind. row_there id items (with_row item.id (ended failed None) t) rest behind)

failed_row : (attempt : ℕ) (found : Option BatchRow) (row : BatchRow) → found ≡ Some row → on_row (is_open attempt) (option_map (ended failed None) found) ≡ Some (BATCHSTATE failed)
failed_row attempt found row is = rw is refl

-- the next one is tested in the table that these leave
next_by : (xs : List AttemptOf) (x : AttemptOf) (t : Table) (b : Bool) → are_among xs x.id ≡ b → lost_refusal xs t ≡ None → on_row (is_open x.attempt) (row_of x.id (lost xs t)) ≡ cond b (Some (BATCHSTATE failed)) (on_row (is_open x.attempt) (row_of x.id t))
next_by xs x t true among taken =
    let w = row_there x.id xs t taken among in
    ap (on_row (is_open x.attempt)) (row_lost x.id xs t ∙ ap (λ (b : Bool). cond b (option_map (ended failed None) (row_of x.id t)) (row_of x.id t)) among) ∙ failed_row x.attempt (row_of x.id t) w.0 w.1
next_by xs x t false apart taken =
    ap (on_row (is_open x.attempt)) (row_lost x.id xs t ∙ ap (λ (b : Bool). cond b (option_map (ended failed None) (row_of x.id t)) (row_of x.id t)) apart)

stopped_by : (a b c : Option Refusal) (why : Refusal) → a ≡ None → b ≡ Some why → or_else a (or_else b c) ≡ Some why
stopped_by a b c why p q = rw p (rw q refl)

split_at : (items : List AttemptOf) (i : ℕ) (x : AttemptOf) → i < length items → x ≡ get_or items i x → items ≡ take i items ++ x ∷ drop (suc i) items
split_at items i x within is =
    sym (take-append-drop i items) ∙ ap (λ (rest : List AttemptOf). take i items ++ rest) (drop-cons items i x within ∙ ap (λ (y : AttemptOf). y ∷ drop (suc i) items) (sym is))

-- the first one that is refused decides
stopped : (xs ys : List AttemptOf) (x : AttemptOf) (t : Table) (why : Refusal) → lost_refusal xs t ≡ None → cond (are_among xs x.id) (Some (BATCHSTATE failed)) (on_row (is_open x.attempt) (row_of x.id t)) ≡ Some why → lost_refusal (xs ++ x ∷ ys) t ≡ Some why
stopped xs ys x t why taken refused =
    refusal_append xs (x ∷ ys) t ∙ stopped_by (lost_refusal xs t) (on_row (is_open x.attempt) (row_of x.id (lost xs t))) _ why taken (next_by xs x t (are_among xs x.id) refl taken ∙ refused)

pub stopped_at : (items : List AttemptOf) (i : ℕ) (x : AttemptOf) (t : Table) (why : Refusal) → i < length items → x ≡ get_or items i x → lost_refusal (take i items) t ≡ None → cond (are_among (take i items) x.id) (Some (BATCHSTATE failed)) (on_row (is_open x.attempt) (row_of x.id t)) ≡ Some why → lost_refusal items t ≡ Some why
stopped_at items i x t why within is taken refused =
    ap (λ (xs : List AttemptOf). lost_refusal xs t) (split_at items i x within is) ∙ stopped (take i items) (drop (suc i) items) x t why taken refused

-- one more that is open
one_more : (xs : List AttemptOf) (x : AttemptOf) (t : Table) → lost_refusal xs t ≡ None → are_among xs x.id ≡ false → on_row (is_open x.attempt) (row_of x.id t) ≡ None → lost_refusal (xs ++ x ∷ []) t ≡ None
one_more xs x t taken apart goes =
    refusal_append xs (x ∷ []) t ∙ both_none _ _ taken (both_none _ _ (next_by xs x t false apart taken ∙ goes) refl)

take_one : (items : List AttemptOf) (i : ℕ) (x : AttemptOf) → i < length items → x ≡ get_or items i x → take (i + 1) items ≡ take i items ++ x ∷ []
take_one items i x within is =
    let next : i + 1 ≡ suc i = omega arith in
    ap (λ (n : ℕ). take n items) next ∙ (take-suc items i x within ∙ ap (λ (y : AttemptOf). take i items ++ y ∷ []) (sym is))

pub one_more_at : (items : List AttemptOf) (i : ℕ) (x : AttemptOf) (t : Table) → i < length items → x ≡ get_or items i x → lost_refusal (take i items) t ≡ None → are_among (take i items) x.id ≡ false → on_row (is_open x.attempt) (row_of x.id t) ≡ None → lost_refusal (take (i + 1) items) t ≡ None
one_more_at items i x t within is taken apart goes =
    ap (λ (xs : List AttemptOf). lost_refusal xs t) (take_one items i x within is) ∙ one_more (take i items) x t taken apart goes

-- ---- what an answer tells

pub refused : (A : Type 0) (o : Option Refusal) (why : Refusal) → Answers {A = A} o (Err why) → o ≡ Some why
refused A None why h = absurd h
refused A (Some other) why h = ap Some (sym h)

pub allowed : (A : Type 0) (o : Option Refusal) (done : A) → Answers {A = A} o (Ok done) → o ≡ None
allowed A None done h = refl
allowed A (Some why) done h = absurd h

pub answered : {A : Type 0} (o : Option Refusal) (why : Refusal) (result : Result A Refusal) → o ≡ Some why → result ≡ Err why → Answers o result
answered o why result p q = rw p (rw q refl)
