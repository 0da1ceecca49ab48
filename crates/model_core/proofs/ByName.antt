-- Items with names that differ: the one at the place of a name is the only one of that name.
use Rattle.std.proofs.Common.{◌≡◌, ◌≢◌, refl, sym, ◌∙◌, ap, ap₂, subst, arith, ℕ, suc, ◌+◌, ◌<◌, nat_lt, Bool, true, false, not, cond, ◌||◌, if◌then◌else◌}
use Rattle.std.proofs.Common.{List, [], ◌∷◌, length, map, filter, set, slice_get, get_or, position, bytes_eq, Option, Some, None, All, AllPairs}
use Rattle.std.specs.List.{list_any, position_or_len, prefix_len, remove}
use Rattle.std.specs.Option.{option_map_or}
use Rattle.std.proofs.lemmas.Bool.{false_from_ne_true}
use Rattle.std.proofs.lemmas.List.Folds.{list_any_none}
use Rattle.std.proofs.lemmas.Slice.Eq.{bytes_eq-Decides}
use Rattle.model_data.specs.Lawful.{AreDistinct}
use Rattle.model_core.specs.Field.{at_place}
use Rattle.model_core.proofs.Mapped.{any-map}

module _ {X : Type 0} (R : X → X → Type 0) (x : X) (xs : List X) (pairs : AllPairs R (x ∷ xs)) where
  pub pairs_head : All (R x) xs
  pairs_head k d within = pairs 0 (suc k) d (omega arith) (omega arith)

  pub pairs_tail : AllPairs R xs
  pairs_tail i j d before within = pairs (suc i) (suc j) d (omega arith) (omega arith)

pub from_some : (b : Bool) (n i : ℕ) → (if b then Some n else None) ≡ Some i → n ≡ i
from_some true n i e = cc
from_some false n i e = absurd cc

module _ {X : Type 0} (name_of : X → List ℕ) (name : List ℕ) where
  abbrev pub named : X → Bool
  named x = bytes_eq name (name_of x)

  abbrev first_named : List X → ℕ
  first_named xs = prefix_len (λ x. not (named x)) xs

  abbrev changed_by_name : (X → X) → List X → List X
  changed_by_name change xs = map (λ x. if named x then change x else x) xs

  first-position : (xs : List X) (place : ℕ) → position named xs ≡ Some place → first_named xs ≡ place
  first-position xs place found = from_some (nat_lt (first_named xs) (length xs)) (first_named xs) place found

  -- no further item has the name of the first one
  pub others : (x : X) (xs : List X) → named x ≡ true → AreDistinct (map name_of (x ∷ xs)) → list_any named xs ≡ false
  others x xs is distinct =
      let names = map name_of xs in
      let apart = pairs_head (λ (x y : List ℕ). x ≢ y) (name_of x) names distinct in
      sym (any-map name_of (bytes_eq name) xs)
      ∙ list_any_none (bytes_eq name) names (λ k d within. false_from_ne_true (bytes_eq name (get_or names k d)) (λ e.
      apart k d within (sym ((bytes_eq-Decides name (name_of x)).0 is) ∙ (bytes_eq-Decides name (get_or names k d)).0 e)))

  unnamed_step : (b any : Bool) (x y : X) (xs rest : List X) → (b || any) ≡ false → (any ≡ false → rest ≡ xs) → ((if b then y else x) ∷ rest) ≡ x ∷ xs
  unnamed_step true any x y xs rest h k = absurd cc
  unnamed_step false any x y xs rest h k = ap (λ l. x ∷ l) (k h)

  -- where no item has the name, none is changed, and none taken away
  pub unnamed-changed : (change : X → X) (xs : List X) → list_any named xs ≡ false → changed_by_name change xs ≡ xs
  unnamed-changed change [] h = refl
  unnamed-changed change (x ∷ xs) h =
      unnamed_step (named x) (list_any named xs) x (change x) xs (changed_by_name change xs) h (unnamed-changed change xs)

  filter_step : (b any : Bool) (x : X) (xs rest : List X) → (b || any) ≡ false → (any ≡ false → rest ≡ xs) → cond (not b) (x ∷ rest) rest ≡ x ∷ xs
  filter_step true any x xs rest h k = absurd cc
  filter_step false any x xs rest h k = ap (λ l. x ∷ l) (k h)

  pub unnamed-filter : (xs : List X) → list_any named xs ≡ false → filter (λ x. not (named x)) xs ≡ xs
  unnamed-filter [] h = refl
  unnamed-filter (x ∷ xs) h =
      filter_step (named x) (list_any named xs) x xs (filter (λ x. not (named x)) xs) h (unnamed-filter xs)

  behind : (change : X → X) (r : ℕ) (x : X) (xs : List X) (o : Option X)
      → option_map_or (λ y. x ∷ set xs r (change y)) o (x ∷ xs) ≡ x ∷ option_map_or (λ y. set xs r (change y)) o xs
  behind change r x xs (Some y) = refl
  behind change r x xs None = refl

  at_step : (b : Bool) (r : ℕ) (x : X) (xs : List X) (change : X → X) (rest : List X)
      → (b ≡ true → rest ≡ xs) → (b ≡ false → at_place r change xs ≡ rest)
      → at_place (cond (not b) (1 + r) 0) change (x ∷ xs) ≡ (if b then change x else x) ∷ rest
  at_step true r x xs change rest h k = ap (λ l. change x ∷ l) (sym (h refl))
  at_step false r x xs change rest h k =
      let e : suc r ≡ 1 + r = omega arith in
      subst (λ (n : ℕ). at_place n change (x ∷ xs) ≡ x ∷ rest) e (behind change r x xs (slice_get xs r) ∙ ap (λ l. x ∷ l) (k refl))

  at_first : (change : X → X) (xs : List X) → AreDistinct (map name_of xs) → list_any named xs ≡ true
      → at_place (first_named xs) change xs ≡ changed_by_name change xs
  at_first change [] distinct any = absurd cc
  at_first change (x ∷ xs) distinct any =
      at_step (named x) (first_named xs) x xs change (changed_by_name change xs)
      (λ e. unnamed-changed change xs (others x xs e distinct))
      (λ e. at_first change xs (pairs_tail (λ (x y : List ℕ). x ≢ y) (name_of x) (map name_of xs) distinct) (sym (ap (λ b. b || list_any named xs) e) ∙ any))

  -- the item at the place of the name is the one that is changed
  pub changed_at : (change : X → X) (xs : List X) (place : ℕ) → AreDistinct (map name_of xs) → position named xs ≡ Some place → list_any named xs ≡ true
      → at_place place change xs ≡ changed_by_name change xs
  changed_at change xs place distinct found known =
      subst (λ (n : ℕ). at_place n change xs ≡ changed_by_name change xs) (first-position xs place found) (at_first change xs distinct known)

  named_step : (b : Bool) (r : ℕ) (x d : X) (xs : List X) → named x ≡ b → (b ≡ false → named (get_or xs r d) ≡ true)
      → named (get_or (x ∷ xs) (cond (not b) (1 + r) 0) d) ≡ true
  named_step true r x d xs e k = e
  named_step false r x d xs e k =
      let one : suc r ≡ 1 + r = omega arith in
      subst (λ (n : ℕ). named (get_or (x ∷ xs) n d) ≡ true) one (k refl)

  pub named_first : (xs : List X) (d : X) → list_any named xs ≡ true → named (get_or xs (first_named xs) d) ≡ true
  named_first [] d any = absurd cc
  named_first (x ∷ xs) d any =
      named_step (named x) (first_named xs) x d xs refl
      (λ e. named_first xs d (sym (ap (λ b. b || list_any named xs) e) ∙ any))

  -- the item at the place of a name has the name
  pub named_at : (xs : List X) (place : ℕ) (d : X) → position named xs ≡ Some place → list_any named xs ≡ true → named (get_or xs place d) ≡ true
  named_at xs place d found known =
      subst (λ (n : ℕ). named (get_or xs n d) ≡ true) (first-position xs place found) (named_first xs d known)

  inside_step : (b : Bool) (r : ℕ) (xs : List X) → (b ≡ false → r < length xs) → cond (not b) (1 + r) 0 < suc (length xs)
  inside_step true r xs k = omega arith
  inside_step false r xs k = let h = k refl in omega (arith, h)

  pub place_inside : (xs : List X) → list_any named xs ≡ true → position_or_len named xs < length xs
  place_inside [] any = absurd cc
  place_inside (x ∷ xs) any =
      inside_step (named x) (first_named xs) xs (λ e. place_inside xs (sym (ap (λ b. b || list_any named xs) e) ∙ any))

  -- the place that a definition speaks of is the one that is found
  pub place_is_found : (xs : List X) (place : ℕ) → position named xs ≡ Some place → position_or_len named xs ≡ place
  place_is_found xs place found = first-position xs place found

  found_step : (b : Bool) (r : ℕ) (x : X) (xs : List X) (rest : Option X) → (b ≡ false → rest ≡ slice_get xs r)
      → (if b then Some x else rest) ≡ slice_get (x ∷ xs) (cond (not b) (1 + r) 0)
  found_step true r x xs rest k = refl
  found_step false r x xs rest k =
      let one : suc r ≡ 1 + r = omega arith in
      k refl ∙ ap (slice_get (x ∷ xs)) one

  abbrev pub first_of_name : List X → Option X
  first_of_name [] = None
  first_of_name (x ∷ xs) = if named x then Some x else first_of_name xs

  first_found : (xs : List X) → list_any named xs ≡ true → first_of_name xs ≡ slice_get xs (first_named xs)
  first_found [] any = absurd cc
  first_found (x ∷ xs) any =
      found_step (named x) (first_named xs) x xs (first_of_name xs) (λ e. first_found xs (sym (ap (λ b. b || list_any named xs) e) ∙ any))

  -- the first item of a name is the one at its place
  pub found_at : (xs : List X) (place : ℕ) → position named xs ≡ Some place → list_any named xs ≡ true → first_of_name xs ≡ slice_get xs place
  found_at xs place found known = first_found xs known ∙ ap (slice_get xs) (first-position xs place found)

  missing_step : (b any : Bool) (x : X) (rest : Option X) → (b || any) ≡ false → (any ≡ false → rest ≡ None) → (if b then Some x else rest) ≡ None
  missing_step true any x rest h k = absurd cc
  missing_step false any x rest h k = k h

  pub not_found : (xs : List X) → list_any named xs ≡ false → first_of_name xs ≡ None
  not_found [] h = refl
  not_found (x ∷ xs) h = missing_step (named x) (list_any named xs) x (first_of_name xs) h (not_found xs)

  remove_step : (b : Bool) (r : ℕ) (x : X) (xs rest : List X) → (b ≡ true → rest ≡ xs) → (b ≡ false → remove xs r ≡ rest)
      → remove (x ∷ xs) (cond (not b) (1 + r) 0) ≡ cond (not b) (x ∷ rest) rest
  remove_step true r x xs rest h k = sym (h refl)
  remove_step false r x xs rest h k =
      let e : suc r ≡ 1 + r = omega arith in
      subst (λ (n : ℕ). remove (x ∷ xs) n ≡ x ∷ rest) e (ap (λ l. x ∷ l) (k refl))

  remove_first : (xs : List X) → AreDistinct (map name_of xs) → list_any named xs ≡ true
      → remove xs (first_named xs) ≡ filter (λ x. not (named x)) xs
  remove_first [] distinct any = absurd cc
  remove_first (x ∷ xs) distinct any =
      remove_step (named x) (first_named xs) x xs (filter (λ x. not (named x)) xs)
      (λ e. unnamed-filter xs (others x xs e distinct))
      (λ e. remove_first xs (pairs_tail (λ (x y : List ℕ). x ≢ y) (name_of x) (map name_of xs) distinct) (sym (ap (λ b. b || list_any named xs) e) ∙ any))

  -- the item at the first place of the name is the one that is taken away
  pub first_removed : (xs : List X) → AreDistinct (map name_of xs) → list_any named xs ≡ true
      → remove xs (position_or_len named xs) ≡ filter (λ x. not (named x)) xs
  first_removed xs distinct known = remove_first xs distinct known

  -- the item at the place of the name is the one that is taken away
  pub removed_at : (xs : List X) (place : ℕ) → AreDistinct (map name_of xs) → position named xs ≡ Some place → list_any named xs ≡ true
      → remove xs place ≡ filter (λ x. not (named x)) xs
  removed_at xs place distinct found known =
      subst (λ (n : ℕ). remove xs n ≡ filter (λ x. not (named x)) xs) (first-position xs place found) (remove_first xs distinct known)

shown_step : {X Y : Type 0} (f : X → Y) (b : Bool) (x y : X) → f y ≡ f x → f (if b then y else x) ≡ f x
shown_step f true x y same = same
shown_step f false x y same = refl

-- what a change keeps of an item is kept of all
pub map-changed : {X Y : Type 0} (f : X → Y) (p : X → Bool) (change : X → X) (xs : List X) → ((x : X) → f (change x) ≡ f x)
    → map f (map (λ x. if p x then change x else x) xs) ≡ map f xs
map-changed f p change [] same = refl
map-changed f p change (x ∷ xs) same =
    ap₂ (λ y ys. y ∷ ys) (shown_step f (p x) x (change x) (same x)) (map-changed f p change xs same)
