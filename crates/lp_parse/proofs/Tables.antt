-- Tests of the items of a list, of what each of them shows.
use Rattle.std.proofs.Common.{◌≡◌, refl, ap, ap₂, arith, ℕ, ◌+◌, ◌≤◌, nat_lt, Bool, true, false, not, cond, ◌||◌, if◌then◌else◌}
use Rattle.std.proofs.Common.{List, [], ◌∷◌, length, map, position, Some, None, unwrap_or}
use Rattle.std.specs.List.{list_any, position_or_len, prefix_len}
use Rattle.std.proofs.lemmas.Bool.{ltb-false}
use Rattle.std.proofs.lemmas.List.{length-map}
use Rattle.std.proofs.lemmas.List.Sums.{prefix_len-le-length}

module _ {X Y : Type 0} (f : X → Y) (p : Y → Bool) where
  prefix-map : (xs : List X) → prefix_len (λ y. not (p y)) (map f xs) ≡ prefix_len (λ x. not (p (f x))) xs
  prefix-map [] = refl
  prefix-map (x ∷ xs) = ap (λ r. cond (not (p (f x))) (1 + r) 0) (prefix-map xs)

  pub position-map : (xs : List X) → position p (map f xs) ≡ position (λ x. p (f x)) xs
  position-map xs = ap₂ (λ i n. if nat_lt i n then Some i else None) (prefix-map xs) (length-map xs f)

  pub any-map : (xs : List X) → list_any p (map f xs) ≡ list_any (λ x. p (f x)) xs
  any-map [] = refl
  any-map (x ∷ xs) = ap (λ r. p (f x) || r) (any-map xs)

capped : (b : Bool) (r n : ℕ) → nat_lt r n ≡ b → r ≤ n → unwrap_or (if b then Some r else None) n ≡ r
capped true r n e within = refl
capped false r n e within =
    let far = ltb-false r n e in
    let same : n ≡ r = omega arith in
    same

-- the place of the first item that passes, or the length
pub position_or_len-position : {X : Type 0} (p : X → Bool) (xs : List X) → unwrap_or (position p xs) (length xs) ≡ position_or_len p xs
position_or_len-position p xs =
    let first = prefix_len (λ x. not (p x)) xs in
    capped (nat_lt first (length xs)) first (length xs) refl (prefix_len-le-length (λ x. not (p x)) xs)
