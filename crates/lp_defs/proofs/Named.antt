-- Lists of items that have names, no two of them the same.
use Rattle.std.proofs.Common.{◌≡◌, ◌≢◌, refl, sym, ℕ, ◌<◌, Bool, true, false, List, ◌∷◌, ◌++◌, map, length, get_or, arith}
use Rattle.std.specs.List.{list_any, position_or_len}
use Rattle.std.specs.Prelude.{AllPairs, bytes_eq}
use Rattle.std.proofs.lemmas.Bool.{false_from_ne_true}
use Rattle.std.proofs.lemmas.List.Folds.{list_any_none}
use Rattle.std.proofs.lemmas.List.Sums.{position_or_len_is}
use Rattle.std.proofs.lemmas.Slice.Eq.{bytes_eq-Decides}
use Rattle.model_data.specs.Lawful.{AreDistinct}
use Rattle.lp_defs.proofs.Lists.{AllPairs-before, AllPairs-behind, AllPairs-from_map}

pub same_text : (text : List ℕ) → bytes_eq text text ≡ true
same_text text = (bytes_eq-Decides text text).1 refl

other_text : (a b : List ℕ) → a ≢ b → bytes_eq a b ≡ false
other_text a b differ = false_from_ne_true (bytes_eq a b) (λ e. differ ((bytes_eq-Decides a b).0 e))

-- whether an item of the list has the name
abbrev pub has_name : {X : Type 0} → (X → List ℕ) → List ℕ → List X → Bool
has_name name text xs = list_any (λ x. bytes_eq text (name x)) xs

abbrev DifferBy : {X : Type 0} → (X → List ℕ) → X → X → Type 0
DifferBy name x y = name x ≢ name y

names_differ : {X : Type 0} (name : X → List ℕ) (xs : List X) → AreDistinct (map name xs) → AllPairs (DifferBy name) xs
names_differ name xs distinct = AllPairs-from_map (λ a b. a ≢ b) name xs distinct

-- no item before or behind this one has its name
pub record IsAlone {X : Type 0} (name : X → List ℕ) (front : List X) (x : X) (rest : List X) : Type 0 where
  pub before : has_name name (name x) front ≡ false
  pub behind : has_name name (name x) rest ≡ false

pub alone : {X : Type 0} (name : X → List ℕ) (front : List X) (x : X) (rest : List X) → AreDistinct (map name (front ++ x ∷ rest)) →
    IsAlone name front x rest
alone {X} name front x rest distinct =
    let pairs = names_differ name (front ++ x ∷ rest) distinct in
    let before = AllPairs-before (DifferBy name) front x rest pairs in
    let behind = AllPairs-behind (DifferBy name) front x rest pairs in
    let is_named = λ (y : X). bytes_eq (name x) (name y) in
    record {
      before = list_any_none is_named front (λ k d within. other_text (name x) (name (get_or front k d)) (λ e. before k d within (sym e)));
      behind = list_any_none is_named rest (λ k d within. other_text (name x) (name (get_or rest k d)) (behind k d within));
    }

-- the first item of a name is the one that has it
pub place_of_name : {X : Type 0} (name : X → List ℕ) (xs : List X) (place : ℕ) (d : X) → AreDistinct (map name xs) → place < length xs →
    position_or_len (λ x. bytes_eq (name (get_or xs place d)) (name x)) xs ≡ place
place_of_name name xs place d distinct within =
    let pairs = names_differ name xs distinct in
    position_or_len_is (λ x. bytes_eq (name (get_or xs place d)) (name x)) xs place d (omega (arith, within))
    (λ k less. other_text (name (get_or xs place d)) (name (get_or xs k d)) (λ e. pairs k place d less within (sym e)))
    (λ _. same_text (name (get_or xs place d)))
