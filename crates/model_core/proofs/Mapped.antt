-- Tests and places in a list, by what each item shows.
use Rattle.std.proofs.Common.{◌≡◌, refl, ap, ap₂, ◌∙◌, sym, ℕ, suc, ◌+◌, nat_lt, Bool, not, cond, ◌||◌, if◌then◌else◌}
use Rattle.std.proofs.Common.{List, [], ◌∷◌, ◌++◌, map, take, drop, position, Some, None}
use Rattle.std.specs.List.{list_any, prefix_len, remove}
use Rattle.std.proofs.lemmas.List.{drop-map, length-map, map-append, take-map}

module _ {X Y : Type 0} (f : X → Y) (p : Y → Bool) where
  prefix-map : (xs : List X) → prefix_len (λ y. not (p y)) (map f xs) ≡ prefix_len (λ x. not (p (f x))) xs
  prefix-map [] = refl
  prefix-map (x ∷ xs) = ap (λ r. cond (not (p (f x))) (1 + r) 0) (prefix-map xs)

  pub position-map : (xs : List X) → position p (map f xs) ≡ position (λ x. p (f x)) xs
  position-map xs = ap₂ (λ i n. if nat_lt i n then Some i else None) (prefix-map xs) (length-map xs f)

  pub any-map : (xs : List X) → list_any p (map f xs) ≡ list_any (λ x. p (f x)) xs
  any-map [] = refl
  any-map (x ∷ xs) = ap (λ r. p (f x) || r) (any-map xs)

pub map-remove : {X Y : Type 0} (f : X → Y) (xs : List X) (i : ℕ) → map f (remove xs i) ≡ remove (map f xs) i
map-remove f xs i =
    map-append f (take i xs) (drop (suc i) xs) ∙ ap₂ (λ a b. a ++ b) (sym (take-map f i xs)) (sym (drop-map f (suc i) xs))
