-- What a table keeps when it changes: its batches are told apart, and their models are lawful.
use Rattle.std.proofs.Common.{◌≡◌, sym, ap, subst, ℕ, Bool, true, false, List, [], ◌∷◌, ◌++◌, length, ◌<◌, zero, suc, arith, Some, None, cond, get_or, set}
use Rattle.std.proofs.lemmas.List.Elements.{All-append, All-set}
use Rattle.base_names.specs.declared.id.BatchId.{BatchId}
use Rattle.model_data.specs.Lawful.{IsLawful}
use Rattle.model_data.specs.declared.batch.BatchBody.{BatchBody}
use Rattle.model_data.specs.declared.batch.BatchRecord.{BatchRecord}
use Rattle.model_data.specs.declared.batch.BatchRow.{BatchRow}
use Rattle.batch_table.proofs.Finding.{changed_at, changed_nowhere, find_at, find_nowhere}
use Rattle.batch_table.specs.Contents.{AreLawful, table_in}
use Rattle.batch_table.specs.Lookups.{StandsAt}
use Rattle.table_defs.specs.Keyed.{IsKeyed}
use Rattle.table_defs.specs.Names.{is_id}
use Rattle.table_defs.specs.Table.{Table, applied, row_of, with_row}
use Rattle.table_defs.specs.Taken.{refusal}
use Rattle.table_defs.proofs.Keyed.{keyed_kept, single_with}
use Rattle.table_defs.proofs.Rows.{numbered_with}

pub keyed_with : (id : BatchId) (f : BatchRow → BatchRow) (t : Table) → ((row : BatchRow) → (f row).id ≡ row.id) → IsKeyed t → IsKeyed (with_row id f t)
keyed_with id f t stays keyed = record { numbered = numbered_with id f t stays keyed.numbered; single = single_with id f t stays keyed.single }

-- the table that a record makes of an old one
pub keyed_by : (r : BatchRecord) (t old new : Table) → old ≡ t → applied r old ≡ new → refusal r t ≡ None → IsKeyed old → IsKeyed new
keyed_by r t old new is made taken keyed = subst IsKeyed made (keyed_kept r old (subst (λ (u : Table). refusal r u ≡ None) (sym is) taken) keyed)

lawful_row : (b : Bool) (row : BatchRow) (f : BatchRow → BatchRow) → (f row).body ≡ row.body → IsLawful row.body.model → IsLawful (cond b (f row) row).body.model
lawful_row true row f stays lawful = subst (λ (body : BatchBody). IsLawful body.model) (sym stays) lawful
lawful_row false row f stays lawful = lawful

-- ---- a row that is changed in its place

pub changed_in_place : (id : BatchId) (f : BatchRow → BatchRow) (rows : List BatchRow) (lasts : List BatchId) (i : ℕ) (d : BatchRow) → StandsAt (λ (row : BatchRow). is_id id row.id) rows (Some i) → IsKeyed (table_in rows lasts) → with_row id f (table_in rows lasts) ≡ table_in (set rows i (f (get_or rows i d))) lasts
changed_in_place id f rows lasts i d at keyed = ap (λ (rs : List BatchRow). table_in rs lasts) (changed_at (λ (row : BatchRow). is_id id row.id) f rows i d at.0 (at.1 d) (keyed.single id))

pub keyed_in_place : (id : BatchId) (f : BatchRow → BatchRow) (rows : List BatchRow) (lasts : List BatchId) (i : ℕ) (d : BatchRow) → StandsAt (λ (row : BatchRow). is_id id row.id) rows (Some i) → ((row : BatchRow) → (f row).id ≡ row.id) → IsKeyed (table_in rows lasts) → IsKeyed (table_in (set rows i (f (get_or rows i d))) lasts)
keyed_in_place id f rows lasts i d at stays keyed = subst IsKeyed (changed_in_place id f rows lasts i d at keyed) (keyed_with id f (table_in rows lasts) stays keyed)

pub lawful_in_place : (f : BatchRow → BatchRow) (rows : List BatchRow) (i : ℕ) (d : BatchRow) → i < length rows → ((row : BatchRow) → (f row).body ≡ row.body) → AreLawful rows → AreLawful (set rows i (f (get_or rows i d)))
lawful_in_place f rows i d within stays lawful = All-set (λ (row : BatchRow). IsLawful row.body.model) rows i (f (get_or rows i d)) (lawful_row true (get_or rows i d) f (stays (get_or rows i d)) (lawful i d within)) lawful

pub unchanged : (id : BatchId) (f : BatchRow → BatchRow) (rows : List BatchRow) (lasts : List BatchId) → StandsAt (λ (row : BatchRow). is_id id row.id) rows None → table_in rows lasts ≡ with_row id f (table_in rows lasts)
unchanged id f rows lasts nowhere = ap (λ (rs : List BatchRow). table_in rs lasts) (sym (changed_nowhere (λ (row : BatchRow). is_id id row.id) f rows (find_nowhere (λ (row : BatchRow). is_id id row.id) rows nowhere)))

-- ---- a row that is looked up

pub found_in_place : (id : BatchId) (rows : List BatchRow) (lasts : List BatchId) (i : ℕ) (d : BatchRow) → StandsAt (λ (row : BatchRow). is_id id row.id) rows (Some i) → IsKeyed (table_in rows lasts) → row_of id (table_in rows lasts) ≡ Some (get_or rows i d)
found_in_place id rows lasts i d at keyed = find_at (λ (row : BatchRow). is_id id row.id) rows i d at.0 (at.1 d) (keyed.single id)

pub found_nowhere : (id : BatchId) (rows : List BatchRow) (lasts : List BatchId) → StandsAt (λ (row : BatchRow). is_id id row.id) rows None → row_of id (table_in rows lasts) ≡ None
found_nowhere id rows lasts nowhere = find_nowhere (λ (row : BatchRow). is_id id row.id) rows nowhere

-- ---- a new row

one_lawful : (row : BatchRow) → IsLawful row.body.model → AreLawful (row ∷ [])
one_lawful row lawful zero d below = lawful
one_lawful row lawful (suc k) d below = absurd (omega arith)

pub lawful_more : (rows : List BatchRow) (row : BatchRow) → AreLawful rows → IsLawful row.body.model → AreLawful (rows ++ row ∷ [])
lawful_more rows row all lawful = All-append (λ (row : BatchRow). IsLawful row.body.model) rows (row ∷ []) all (one_lawful row lawful)
