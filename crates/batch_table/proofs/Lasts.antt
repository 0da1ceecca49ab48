-- The last ID of each owner, put in place of the one before it.
use Rattle.std.proofs.Common.{◌≡◌, refl, ap, ◌∙◌, ℕ, zero, suc, ◌<◌, ◌≤◌, Bool, true, false, not, length, get_or, Some, None, List, [], ◌∷◌, ◌++◌, map, arith}
use Rattle.std.specs.Prelude.{filter, find, position}
use Rattle.std.specs.List.{position_or_len}
use Rattle.std.proofs.lemmas.Bool.Decides.{nat_tests}
use Rattle.std.proofs.lemmas.List.Quantifiers.{position-Some}
use Rattle.std.proofs.lemmas.List.Sums.{fails_before_first}
use Rattle.std.proofs.lemmas.List.{map-append}
use Rattle.base_names.specs.declared.id.BatchId.{BatchId}
use Rattle.batch_table.specs.Contents.{mark_of}
use Rattle.table_defs.specs.Names.{Owner, is_owner}
use Rattle.table_defs.specs.Table.{Mark, number_of, with_mark}

map_filter : {A B : Type 0} (f : A → B) (test : B → Bool) (xs : List A) → map f (filter (λ x. test (f x)) xs) ≡ filter test (map f xs)
map_filter f test [] = refl
map_filter f test (x ∷ xs) = grind (arith, map_filter f test xs)

pub marked : (id : BatchId) (lasts : List BatchId) → map mark_of (filter (λ (last : BatchId). not (is_owner id.owner last.owner)) lasts ++ id ∷ []) ≡ with_mark id (map mark_of lasts)
marked id lasts =
    map-append mark_of (filter (λ (last : BatchId). not (is_owner id.owner last.owner)) lasts) (id ∷ [])
    ∙ ap (λ (marks : List Mark). marks ++ mark_of id ∷ []) (map_filter mark_of (λ mark. not (is_owner id.owner mark.owner)) lasts)

number_first : (owner : Owner) (lasts : List BatchId) (i : ℕ) (d : BatchId) → i < length lasts → is_owner owner (get_or lasts i d).owner ≡ true → ((k : ℕ) → k < i → is_owner owner (get_or lasts k d).owner ≡ false) → number_of (find (λ mark. is_owner owner mark.owner) (map mark_of lasts)) ≡ (get_or lasts i d).number
number_first owner [] i d there is before = absurd (omega arith)
number_first owner (x ∷ xs) zero d there is before = rw is refl
number_first owner (x ∷ xs) (suc i) d there is before =
    let off : is_owner owner x.owner ≡ false = before 0 (omega arith) in
    rw off (number_first owner xs i d (omega arith) is (λ k below. before (suc k) (omega arith)))

pub number_at : (owner : Owner) (lasts : List BatchId) (i : ℕ) (d : BatchId) → position (λ last. is_owner owner last.owner) lasts ≡ Some i → number_of (find (λ mark. is_owner owner mark.owner) (map mark_of lasts)) ≡ (get_or lasts i d).number
number_at owner lasts i d is = let at = position-Some (λ (last : BatchId). is_owner owner last.owner) lasts i d is in number_first owner lasts i d at.0 at.1 at.2

none_marked : (owner : Owner) (lasts : List BatchId) → ((k : ℕ) (d : BatchId) → k < length lasts → is_owner owner (get_or lasts k d).owner ≡ false) → number_of (find (λ mark. is_owner owner mark.owner) (map mark_of lasts)) ≡ 0
none_marked owner [] all = refl
none_marked owner (x ∷ xs) all = let off : is_owner owner x.owner ≡ false = all 0 x (omega arith) in rw off (none_marked owner xs (λ k d below. all (suc k) d (omega arith)))

pub number_nowhere : (owner : Owner) (lasts : List BatchId) → position (λ last. is_owner owner last.owner) lasts ≡ None → number_of (find (λ mark. is_owner owner mark.owner) (map mark_of lasts)) ≡ 0
number_nowhere owner lasts is =
    let past : length lasts ≤ position_or_len (λ (last : BatchId). is_owner owner last.owner) lasts = grind (arith, nat_tests, is) in
    none_marked owner lasts (λ k d below. fails_before_first (λ (last : BatchId). is_owner owner last.owner) lasts k d (omega arith))
