-- Batches are listed by their IDs.
use Rattle.std.proofs.Common.{◌≡◌, refl, sym, ◌∙◌, ℕ, Bool, true, false, List, [], ◌∷◌, cond, arith}
use Rattle.std.specs.Prelude.{nat_lt}
use Rattle.std.proofs.lemmas.Bool.Decides.{nat_tests}
use Rattle.base_names.specs.declared.id.BatchId.{BatchId}
use Rattle.model_data.specs.declared.batch.BatchRow.{BatchRow}
use Rattle.table_defs.specs.Names.{is_owner}
use Rattle.cluster_defs.specs.Listing.{AreInOrder, IsFollowed, by_id, is_before, sorted_in}
use Rattle.cluster_laws.proofs.Listings.{flip_owner, owners_apart}

lower_apart : (m n : ℕ) → nat_lt m n ≡ true → nat_lt n m ≡ false
lower_apart m n h = grind (arith, nat_tests, h)

ids_apart : (a b : BatchId) (o : Bool) → is_owner a.owner b.owner ≡ o → is_before a b ≡ true → is_before b a ≡ false
ids_apart a b true os h = let j = sym (flip_owner a.owner b.owner) ∙ os in rw j (lower_apart a.number b.number (sym (rw os refl) ∙ h))
ids_apart a b false os h = let j = sym (flip_owner a.owner b.owner) ∙ os in rw j (owners_apart a.owner b.owner (sym (rw os refl) ∙ h))

third_by : (row next third : BatchRow) (rows : List BatchRow) (e : Bool) → is_before row.id next.id ≡ false → is_before third.id next.id ≡ false → IsFollowed next (cond e (row ∷ third ∷ rows) (third ∷ sorted_in row rows))
third_by row next third rows true is followed = is
third_by row next third rows false is followed = followed

head_sorted : (row next : BatchRow) (rows : List BatchRow) → is_before row.id next.id ≡ false → IsFollowed next rows → IsFollowed next (sorted_in row rows)
head_sorted row next [] is followed = is
head_sorted row next (third ∷ rows) is followed = third_by row next third rows (is_before row.id third.id) is followed

sorted_by : (row next : BatchRow) (rows : List BatchRow) (e : Bool) → is_before row.id next.id ≡ e → AreInOrder (next ∷ rows) → AreInOrder (sorted_in row rows) → AreInOrder (cond e (row ∷ next ∷ rows) (next ∷ sorted_in row rows))
sorted_by row next rows true is order later = (ids_apart row.id next.id _ refl is, order)
sorted_by row next rows false is order later = (head_sorted row next rows is order.0, later)

sorted_order : (row : BatchRow) (rows : List BatchRow) → AreInOrder rows → AreInOrder (sorted_in row rows)
sorted_order row [] order = (tt, tt)
sorted_order row (next ∷ rows) order = sorted_by row next rows (is_before row.id next.id) refl order (sorted_order row rows order.1)

pub by_id_order : (rows : List BatchRow) → AreInOrder (by_id rows)
by_id_order [] = tt
by_id_order (row ∷ rows) = sorted_order row (by_id rows) (by_id_order rows)
