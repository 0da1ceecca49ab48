-- Terms that are put in order are those of the variables, one after the other.
use Rattle.std.proofs.Common.{◌≡◌, refl, sym, ◌∙◌, ap, ap₂, subst, arith, ℕ, zero, suc, ◌+◌, ◌<◌, ◌≤◌, ◌==◌, nat_lt, Bool, true, false, not, cond, ◌&&◌, ◌||◌, if◌then◌else◌, ◌⊎◌, inl, inr, zero-add}
use Rattle.std.proofs.Common.{List, [], ◌∷◌, ◌++◌, length, map, filter, get_or, bytes_eq, All, sum_by, Contains}
use Rattle.std.specs.List.{list_all, list_any}
use Rattle.std.specs.List.Sorted.{IsNonDecreasingBy, IsPermutation}
use Rattle.std.proofs.lemmas.Bool.{eq-eqb, eqb-true, false_from_ne_true, false≢true, ne_eqb}
use Rattle.std.proofs.lemmas.List.Folds.{list_any_at}
use Rattle.std.proofs.lemmas.List.Kept.{AllPairs-cons, AllPairs-filter}
use Rattle.std.proofs.lemmas.List.Sorted.{Contains-permutation, IsPermutation-sym, sum_by-IsPermutation}
use Rattle.std.proofs.lemmas.List.Sums.{sum_by-cons}
use Rattle.std.proofs.lemmas.Slice.Eq.{bytes_eq-Decides}
use Rattle.frac128.specs.Fraction.{Fraction}
use Rattle.model_data.specs.Lawful.{AreDistinct}
use Rattle.model_data.specs.declared.model.Term.{Term}
use Rattle.model_core.specs.Effect.{coefficient_of, is_zero, terms_from}
use Rattle.model_core.specs.One.{has_double}
use Rattle.model_core.specs.Placed.{has_double_var, place_of, placed}
use Rattle.model_core.specs.Rising.{IsRising}
use Rattle.model_core.specs.declared.change.NamedTerm.{NamedTerm}
use Rattle.model_core.proofs.ByName.{pairs_head, pairs_tail}
use Rattle.model_core.proofs.Spots.{by_order}

-- x is an item of the list
abbrev In : {X : Type 0} → X → List X → Type 0
In x [] = ⊥
In x (y ∷ ys) = (y ≡ x) ⊎ In x ys

module _ {X : Type 0} where
  in_at : (x : X) (xs : List X) (k : ℕ) → k < length xs → get_or xs k x ≡ x → In x xs
  in_at x [] k within e = absurd (omega (arith, within))
  in_at x (y ∷ ys) zero within e = inl e
  in_at x (y ∷ ys) (suc k) within e = inr (in_at x ys k (omega (arith, within)) e)

  behind_it : (x y : X) (ys : List X) → Contains ys x → Contains (y ∷ ys) x
  behind_it x y ys h = (suc (h.0), omega (arith, h.1), h.2)

  contains_in : (x : X) (xs : List X) → In x xs → Contains xs x
  contains_in x [] h = absurd h
  contains_in x (y ∷ ys) (inl e) = (0, omega arith, e)
  contains_in x (y ∷ ys) (inr h) = behind_it x y ys (contains_in x ys h)

  moved_in : (x : X) (xs ys : List X) → IsPermutation xs ys → In x xs → In x ys
  moved_in x xs ys moves h = let there = Contains-permutation xs ys x moves (contains_in x xs h) in in_at x ys there.0 there.1 there.2

  all_in : (P : X → Type 0) (x : X) (xs : List X) → All P xs → In x xs → P x
  all_in P x [] h i = absurd i
  all_in P x (y ∷ ys) h (inl e) = subst P e (h 0 y (omega arith))
  all_in P x (y ∷ ys) h (inr i) = all_in P x ys (λ k d within. h (suc k) d (omega (arith, within))) i

  kept_step : (b : Bool) (x y : X) (ys : List X) → b ≡ true → (y ≡ x) ⊎ In x ys → In x (cond b (y ∷ ys) ys)
  kept_step true x y ys e h = h
  kept_step false x y ys e h = absurd cc

  inner_step : (b : Bool) (x y : X) (ys : List X) → In x ys → In x (cond b (y ∷ ys) ys)
  inner_step true x y ys h = inr h
  inner_step false x y ys h = h

  filter_in : (p : X → Bool) (x : X) (xs : List X) → In x xs → p x ≡ true → In x (filter p xs)
  filter_in p x [] h pass = absurd h
  filter_in p x (y ∷ ys) (inl e) pass = kept_step (p y) x y (filter p ys) (ap p e ∙ pass) (inl e)
  filter_in p x (y ∷ ys) (inr h) pass = inner_step (p y) x y (filter p ys) (filter_in p x ys h pass)

  unfilter_step : (p : X → Bool) (b : Bool) (x y : X) (ys zs : List X) → p y ≡ b → (In x zs → In x ys × (p x ≡ true)) → In x (cond b (y ∷ zs) zs)
      → ((y ≡ x) ⊎ In x ys) × (p x ≡ true)
  unfilter_step p true x y ys zs e rest (inl same) = (inl same, sym (ap p same) ∙ e)
  unfilter_step p true x y ys zs e rest (inr h) = (inr ((rest h).0), (rest h).1)
  unfilter_step p false x y ys zs e rest h = (inr ((rest h).0), (rest h).1)

  in_filter : (p : X → Bool) (x : X) (xs : List X) → In x (filter p xs) → In x xs × (p x ≡ true)
  in_filter p x [] h = absurd h
  in_filter p x (y ∷ ys) h = unfilter_step p (p y) x y ys (filter p ys) refl (in_filter p x ys) h

map_in : {X Y : Type 0} (f : X → Y) (x : X) (xs : List X) → In x xs → In (f x) (map f xs)
map_in f x [] h = absurd h
map_in f x (y ∷ ys) (inl e) = inl (ap f e)
map_in f x (y ∷ ys) (inr h) = inr (map_in f x ys h)

in_map : {X Y : Type 0} (f : X → Y) (y : Y) (xs : List X) → In y (map f xs) → (x : X) × (In x xs × (f x ≡ y))
in_map f y [] h = absurd h
in_map f y (x ∷ xs) (inl e) = (x, (inl refl, e))
in_map f y (x ∷ xs) (inr h) = let found = in_map f y xs h in (found.0, (inr (found.1.0), found.1.1))

-- terms that rise are known by their items
module _ (x : Term) (xs : List Term) (rising : IsRising (x ∷ xs)) where
  above : (t : Term) → In t xs → x.var < t.var
  above t h = all_in (λ u. x.var < u.var) t xs (pairs_head (λ (s u : Term). s.var < u.var) x xs rising) h

  rest_rising : IsRising xs
  rest_rising = pairs_tail (λ (s u : Term). s.var < u.var) x xs rising

same_head : (x y : Term) (xs ys : List Term) → IsRising (x ∷ xs) → IsRising (y ∷ ys) → (y ≡ x) ⊎ In x ys → (x ≡ y) ⊎ In y xs → x ≡ y
same_head x y xs ys rx ry (inl e) g = sym e
same_head x y xs ys rx ry (inr h) (inl e) = e
same_head x y xs ys rx ry (inr h) (inr k) =
    let a = above y ys ry x h in let b = above x xs rx y k in absurd (omega (arith, a, b))

in_rest : (t x y : Term) (ys : List Term) → x ≡ y → x.var < t.var → (y ≡ t) ⊎ In t ys → In t ys
in_rest t x y ys same lt (inl e) = let vars : x.var ≡ t.var = ap (λ (u : Term). u.var) (same ∙ e) in absurd (omega (arith, lt, vars))
in_rest t x y ys same lt (inr h) = h

same_terms : (xs ys : List Term) → IsRising xs → IsRising ys → ((t : Term) → In t xs → In t ys) → ((t : Term) → In t ys → In t xs) → xs ≡ ys
same_terms [] [] rx ry f g = refl
same_terms [] (y ∷ ys) rx ry f g = absurd (g y (inl refl))
same_terms (x ∷ xs) [] rx ry f g = absurd (f x (inl refl))
same_terms (x ∷ xs) (y ∷ ys) rx ry f g =
    let head = same_head x y xs ys rx ry (f x (inl refl)) (g y (inl refl)) in
    ap₂ (λ (t : Term) (ts : List Term). t ∷ ts) head
    (same_terms xs ys (rest_rising x xs rx) (rest_rising y ys ry)
    (λ t h. in_rest t x y ys head (above x xs rx t h) (f t (inr h)))
    (λ t h. in_rest t y x xs (sym head) (above y ys ry t h) (g t (inr h))))

-- what is found of a name that stands among the names
found_step : (name text : List ℕ) (b : Bool) (r : ℕ) (names : List (List ℕ)) → bytes_eq name text ≡ b → (b ≡ false → (r < length names) × (get_or names r [] ≡ name))
    → (cond (not b) (1 + r) 0 < suc (length names)) × (get_or (text ∷ names) (cond (not b) (1 + r) 0) [] ≡ name)
found_step name text true r names e rest = (omega arith, sym ((bytes_eq-Decides name text).0 e))
found_step name text false r names e rest =
    let one : suc r ≡ 1 + r = omega arith in
    let inside = (rest refl).0 in
    (omega (arith, inside), subst (λ (n : ℕ). get_or (text ∷ names) n [] ≡ name) one ((rest refl).1))

pub place_is : (names : List (List ℕ)) (name : List ℕ) → list_any (bytes_eq name) names ≡ true
    → (place_of names name < length names) × (get_or names (place_of names name) [] ≡ name)
place_is [] name known = absurd cc
place_is (text ∷ names) name known =
    found_step name text (bytes_eq name text) (place_of names name) names refl
    (λ e. place_is names name (sym (ap (λ b. b || list_any (bytes_eq name) names) e) ∙ known))

known_at : (names : List (List ℕ)) (i : ℕ) → i < length names → list_any (bytes_eq (get_or names i [])) names ≡ true
known_at [] i within = absurd (omega (arith, within))
known_at (text ∷ names) zero within = ap (λ b. b || list_any (bytes_eq text) names) ((bytes_eq-Decides text text).1 refl)
known_at (text ∷ names) (suc i) within =
    ap (λ r. bytes_eq (get_or names i []) text || r) (known_at names i (omega (arith, within))) ∙ or_true (bytes_eq (get_or names i []) text) where
      or_true : (b : Bool) → (b || true) ≡ true
      or_true true = refl
      or_true false = refl

-- the place of the name at a place is that place
place_at : (names : List (List ℕ)) (i : ℕ) → AreDistinct names → i < length names → place_of names (get_or names i []) ≡ i
place_at names i distinct within =
    let name = get_or names i [] in
    let found = place_is names name (known_at names i within) in
    by_order (place_of names name) i (nat_lt (place_of names name) i) refl
    (λ lt. absurd (distinct (place_of names name) i [] lt within (found.1)))
    (λ le. by_order i (place_of names name) (nat_lt i (place_of names name)) refl
    (λ lt. absurd (distinct i (place_of names name) [] lt (found.0) (sym (found.1))))
    (λ ge. omega (arith, le, ge)))

-- what the terms say of a name that stands once among them
or_false_left : (a b : Bool) → (a || b) ≡ false → a ≡ false
or_false_left true b e = absurd cc
or_false_left false b e = refl

or_false_right : (a b : Bool) → (a || b) ≡ false → b ≡ false
or_false_right true b e = absurd cc
or_false_right false b e = e

any_in : {X : Type 0} (p : X → Bool) (x : X) (xs : List X) → In x xs → p x ≡ true → list_any p xs ≡ true
any_in p x [] h pass = absurd h
any_in p x (y ∷ ys) (inl e) pass = ap (λ b. b || list_any p ys) (ap p e ∙ pass)
any_in p x (y ∷ ys) (inr h) pass = ap (λ r. p y || r) (any_in p x ys h pass) ∙ or_true (p y) where
  or_true : (b : Bool) → (b || true) ≡ true
  or_true true = refl
  or_true false = refl

only_coefficient : (t : NamedTerm) (terms : List NamedTerm) → has_double (map (λ u. u.name) terms) ≡ false → In t terms → coefficient_of t.name terms ≡ t.coef
only_coefficient t [] single h = absurd h
only_coefficient t (u ∷ terms) single (inl e) =
    let name : u.name ≡ t.name = ap (λ (v : NamedTerm). v.name) e in
    ap (λ (b : Bool). if b then u.coef else coefficient_of t.name terms) ((bytes_eq-Decides t.name u.name).1 (sym name)) ∙ ap (λ (v : NamedTerm). v.coef) e
only_coefficient t (u ∷ terms) single (inr h) =
    let names = map (λ (v : NamedTerm). v.name) terms in
    let apart = or_false_left (list_any (bytes_eq u.name) names) (has_double names) single in
    let other : bytes_eq t.name u.name ≡ false = false_from_ne_true (bytes_eq t.name u.name) (λ same.
    false≢true (sym apart ∙ any_in (bytes_eq u.name) t.name names (map_in (λ (v : NamedTerm). v.name) t terms h)
    ((bytes_eq-Decides u.name t.name).1 (sym ((bytes_eq-Decides t.name u.name).0 same))))) in
    ap (λ (b : Bool). if b then u.coef else coefficient_of t.name terms) other
    ∙ only_coefficient t terms (or_false_right (list_any (bytes_eq u.name) names) (has_double names) single) h

FoundTerm : List ℕ → List NamedTerm → Type 0
FoundTerm name terms = (t : NamedTerm) × (In t terms × (t.name ≡ name) × (coefficient_of name terms ≡ t.coef))

found_by_name : (name : List ℕ) (t : NamedTerm) (terms : List NamedTerm) (b : Bool) → bytes_eq name t.name ≡ b
    → (is_zero (coefficient_of name terms) ≡ false → FoundTerm name terms) → is_zero (coefficient_of name (t ∷ terms)) ≡ false → FoundTerm name (t ∷ terms)
unfolding FoundTerm
found_by_name name t terms true same rest e =
    (t, (inl refl, sym ((bytes_eq-Decides name t.name).0 same), ap (λ (b : Bool). if b then t.coef else coefficient_of name terms) same))
found_by_name name t terms false differ rest e =
    let here : coefficient_of name (t ∷ terms) ≡ coefficient_of name terms = ap (λ (b : Bool). if b then t.coef else coefficient_of name terms) differ in
    let found = rest (ap is_zero (sym here) ∙ e) in
    (found.0, (inr (found.1.0), found.1.1, here ∙ found.1.2))

found_coefficient : (name : List ℕ) (terms : List NamedTerm) → is_zero (coefficient_of name terms) ≡ false → FoundTerm name terms
found_coefficient name [] e = absurd cc
found_coefficient name (t ∷ terms) e = found_by_name name t terms (bytes_eq name t.name) refl (found_coefficient name terms) e

-- the term of the variable whose name stands at the place i, from k on
item : ℕ → List (List ℕ) → List NamedTerm → ℕ → Term
item k names terms i = record { var = k + i; coef = coefficient_of (get_or names i []) terms }

IsItem : ℕ → List (List ℕ) → List NamedTerm → Term → Type 0
IsItem k names terms t = (i : ℕ) × ((i < length names) × (t ≡ item k names terms i) × (is_zero (coefficient_of (get_or names i []) terms) ≡ false))

later : (k : ℕ) (name : List ℕ) (names : List (List ℕ)) (terms : List NamedTerm) (t : Term) → IsItem (suc k) names terms t → IsItem k (name ∷ names) terms t
unfolding IsItem item
later k name names terms t h =
    let i = h.0 in
    let within = h.1.0 in
    let place : suc k + i ≡ k + suc i = omega arith in
    (suc i, (omega (arith, within), h.1.1 ∙ ap (λ (n : ℕ). record { var = n; coef = coefficient_of (get_or names i []) terms }) place, h.1.2))

item_step : (k : ℕ) (name : List ℕ) (names : List (List ℕ)) (terms : List NamedTerm) (t : Term) (rest : List Term) (b : Bool)
    → is_zero (coefficient_of name terms) ≡ b → (In t rest → IsItem (suc k) names terms t)
    → In t ((if b then [] else record { var = k; coef = coefficient_of name terms } ∷ []) ++ rest) → IsItem k (name ∷ names) terms t
unfolding IsItem item
item_step k name names terms t rest true e more h = later k name names terms t (more h)
item_step k name names terms t rest false e more (inl same) =
    let place : k ≡ k + 0 = omega arith in
    (0, (omega arith, sym same ∙ ap (λ (n : ℕ). record { var = n; coef = coefficient_of name terms }) place, e))
item_step k name names terms t rest false e more (inr h) = later k name names terms t (more h)

in_terms : (k : ℕ) (names : List (List ℕ)) (terms : List NamedTerm) (t : Term) → In t (terms_from k names terms) → IsItem k names terms t
in_terms k [] terms t h = absurd h
in_terms k (name ∷ names) terms t h =
    item_step k name names terms t (terms_from (suc k) names terms) (is_zero (coefficient_of name terms)) refl (in_terms (suc k) names terms t) h

first_item : (k : ℕ) (x : Fraction) (t : Term) (rest : List Term) (b : Bool) → b ≡ false → record { var = k; coef = x } ≡ t
    → In t ((if b then [] else record { var = k; coef = x } ∷ []) ++ rest)
first_item k x t rest true e same = absurd cc
first_item k x t rest false e same = inl same

other_item : (k : ℕ) (x : Fraction) (t : Term) (rest : List Term) (b : Bool) → In t rest → In t ((if b then [] else record { var = k; coef = x } ∷ []) ++ rest)
other_item k x t rest true h = h
other_item k x t rest false h = inr h

terms_in : (k : ℕ) (names : List (List ℕ)) (terms : List NamedTerm) (i : ℕ) (t : Term) → i < length names → item k names terms i ≡ t
    → is_zero (coefficient_of (get_or names i []) terms) ≡ false → In t (terms_from k names terms)
unfolding item
terms_in k [] terms i t within is other = absurd (omega (arith, within))
terms_in k (name ∷ names) terms zero t within is other =
    let place : k ≡ k + 0 = omega arith in
    first_item k (coefficient_of name terms) t (terms_from (suc k) names terms) (is_zero (coefficient_of name terms)) other
    (ap (λ (n : ℕ). record { var = n; coef = coefficient_of name terms }) place ∙ is)
terms_in k (name ∷ names) terms (suc i) t within is other =
    let place : suc k + i ≡ k + suc i = omega arith in
    other_item k (coefficient_of name terms) t (terms_from (suc k) names terms) (is_zero (coefficient_of name terms))
    (terms_in (suc k) names terms i t (omega (arith, within))
    (ap (λ (n : ℕ). record { var = n; coef = coefficient_of (get_or names i []) terms }) place ∙ is) other)

at_in : {X : Type 0} (xs : List X) (j : ℕ) (d : X) → j < length xs → In (get_or xs j d) xs
at_in [] j d within = absurd (omega (arith, within))
at_in (x ∷ xs) zero d within = inl refl
at_in (x ∷ xs) (suc j) d within = inr (at_in xs j d (omega (arith, within)))

pub in_all : {X : Type 0} (P : X → Type 0) (xs : List X) → ((x : X) → In x xs → P x) → All P xs
in_all P xs h j d within = h (get_or xs j d) (at_in xs j d within)

rising_step : (k : ℕ) (x : Fraction) (rest : List Term) (b : Bool) → IsRising rest → ((t : Term) → In t rest → k < t.var)
    → IsRising ((if b then [] else record { var = k; coef = x } ∷ []) ++ rest)
rising_step k x rest true rising behind = rising
rising_step k x rest false rising behind =
    AllPairs-cons (λ (s t : Term). s.var < t.var) (record { var = k; coef = x }) rest (in_all (λ t. k < t.var) rest behind) rising

-- the terms in the order of the variables rise
pub rising_from : (k : ℕ) (names : List (List ℕ)) (terms : List NamedTerm) → IsRising (terms_from k names terms)
unfolding IsItem item
rising_from k [] terms = λ i j d before within. absurd (omega (arith, within))
rising_from k (name ∷ names) terms =
    rising_step k (coefficient_of name terms) (terms_from (suc k) names terms) (is_zero (coefficient_of name terms)) (rising_from (suc k) names terms)
    (λ t h. let found = in_terms (suc k) names terms t h in
    let is : t.var ≡ suc k + found.0 = ap (λ (u : Term). u.var) (found.1.1) in omega (arith, is))

-- where each term stands within the names, and isn't 0
pub within_from : (names : List (List ℕ)) (terms : List NamedTerm) (t : Term) → In t (terms_from 0 names terms) → (t.var < length names) × (is_zero t.coef ≡ false)
unfolding IsItem item
within_from names terms t h =
    let found = in_terms 0 names terms t h in
    let is : t.var ≡ 0 + found.0 = ap (λ (u : Term). u.var) (found.1.1) in
    let below = found.1.0 in
    (omega (arith, is, below), ap (λ (u : Term). is_zero u.coef) (found.1.1) ∙ found.1.2)

-- two terms of one variable
one : ℕ → Term → ℕ
one p t = if p == t.var then 1 else 0

one_step : (p : ℕ) (t : Term) (b : Bool) → (p == t.var) ≡ b → one p t ≡ (if b then 1 else 0)
unfolding one
one_step p t b e = ap (λ (b : Bool). if b then 1 else 0) e

none_count : (p : ℕ) (xs : List Term) → list_any (λ u. p == u.var) xs ≡ false → sum_by (one p) xs ≡ 0
none_count p [] h = refl
none_count p (x ∷ xs) h =
    let all = sum_by-cons (one p) x xs in
    let first = one_step p x false (or_false_left (p == x.var) (list_any (λ u. p == u.var) xs) h) in
    let rest = none_count p xs (or_false_right (p == x.var) (list_any (λ u. p == u.var) xs) h) in
    omega (arith, all, first, rest)

some_first : (p : ℕ) (x : Term) (xs : List Term) (b : Bool) → (p == x.var) ≡ b → (list_any (λ u. p == u.var) xs ≡ true → 1 ≤ sum_by (one p) xs)
    → (p == x.var || list_any (λ u. p == u.var) xs) ≡ true → 1 ≤ sum_by (one p) (x ∷ xs)
some_first p x xs true e more h =
    let all = sum_by-cons (one p) x xs in let first = one_step p x true e in omega (arith, all, first)
some_first p x xs false e more h =
    let all = sum_by-cons (one p) x xs in
    let rest = more (sym (ap (λ b. b || list_any (λ u. p == u.var) xs) e) ∙ h) in
    omega (arith, all, rest)

some_count : (p : ℕ) (xs : List Term) → list_any (λ u. p == u.var) xs ≡ true → 1 ≤ sum_by (one p) xs
some_count p [] h = absurd cc
some_count p (x ∷ xs) h = some_first p x xs (p == x.var) refl (some_count p xs) h

single_first : (p : ℕ) (x : Term) (xs : List Term) (b : Bool) → (p == x.var) ≡ b → sum_by (one p) xs ≤ 1
    → list_any (λ u. x.var == u.var) xs ≡ false → sum_by (one p) (x ∷ xs) ≤ 1
single_first p x xs true e rest h =
    let all = sum_by-cons (one p) x xs in
    let first = one_step p x true e in
    let none = none_count p xs (subst (λ (n : ℕ). list_any (λ u. n == u.var) xs ≡ false) (sym (eqb-true p x.var e)) h) in
    omega (arith, all, first, none)
single_first p x xs false e rest h =
    let all = sum_by-cons (one p) x xs in
    let first = one_step p x false e in
    omega (arith, all, first, rest)

single_count : (xs : List Term) → has_double_var xs ≡ false → (p : ℕ) → sum_by (one p) xs ≤ 1
single_count [] h p = omega arith
single_count (x ∷ xs) h p =
    single_first p x xs (p == x.var) refl (single_count xs (or_false_right (list_any (λ u. x.var == u.var) xs) (has_double_var xs) h) p)
    (or_false_left (list_any (λ u. x.var == u.var) xs) (has_double_var xs) h)

IsDoubled : List Term → Type 0
IsDoubled xs = (p : ℕ) × (2 ≤ sum_by (one p) xs)

double_first : (x : Term) (xs : List Term) (b : Bool) → list_any (λ u. x.var == u.var) xs ≡ b → (has_double_var xs ≡ true → IsDoubled xs)
    → (list_any (λ u. x.var == u.var) xs || has_double_var xs) ≡ true → IsDoubled (x ∷ xs)
unfolding IsDoubled
double_first x xs true e more h =
    let all = sum_by-cons (one x.var) x xs in
    let first = one_step x.var x true (eq-eqb x.var x.var refl) in
    let rest = some_count x.var xs e in
    (x.var, omega (arith, all, first, rest))
double_first x xs false e more h =
    let found = more (sym (ap (λ b. b || has_double_var xs) e) ∙ h) in
    let rest = found.1 in
    let all = sum_by-cons (one (found.0)) x xs in
    (found.0, omega (arith, all, rest))

double_count : (xs : List Term) → has_double_var xs ≡ true → IsDoubled xs
double_count [] h = absurd cc
double_count (x ∷ xs) h = double_first x xs (list_any (λ u. x.var == u.var) xs) refl (double_count xs) h

same_bool : (a b : Bool) → (a ≡ true → b ≡ false → ⊥) → (a ≡ false → b ≡ true → ⊥) → a ≡ b
same_bool true true f g = refl
same_bool true false f g = absurd (f refl refl)
same_bool false true f g = absurd (g refl refl)
same_bool false false f g = refl

-- whether two terms have one variable doesn't depend on their order
double_moved : (xs ys : List Term) → IsPermutation xs ys → has_double_var xs ≡ has_double_var ys
unfolding IsDoubled
double_moved xs ys moves = same_bool (has_double_var xs) (has_double_var ys)
    (λ a b. let two = double_count xs a in let many = two.1 in let few = single_count ys b (two.0) in
    let same = sum_by-IsPermutation (one (two.0)) xs ys moves in omega (arith, many, few, same))
    (λ a b. let two = double_count ys b in let many = two.1 in let few = single_count xs a (two.0) in
    let same = sum_by-IsPermutation (one (two.0)) xs ys moves in omega (arith, many, few, same))

or_true : (b : Bool) → (b || true) ≡ true
or_true true = refl
or_true false = refl

pub double_at : (xs : List Term) (i j : ℕ) (d : Term) → i < j → j < length xs → (get_or xs i d).var ≡ (get_or xs j d).var → has_double_var xs ≡ true
double_at [] i j d before within same = absurd (omega (arith, within))
double_at (x ∷ xs) i zero d before within same = absurd (omega (arith, before))
double_at (x ∷ xs) zero (suc j) d before within same =
    ap (λ b. b || has_double_var xs) (list_any_at (λ u. x.var == u.var) xs j d (omega (arith, within)) (eq-eqb x.var _ same))
double_at (x ∷ xs) (suc i) (suc j) d before within same =
    ap (λ b. list_any (λ u. x.var == u.var) xs || b) (double_at xs i j d (omega (arith, before)) (omega (arith, within)) same)
    ∙ or_true (list_any (λ u. x.var == u.var) xs)

pub single_rising : (xs : List Term) → IsNonDecreasingBy (λ (t : Term). t.var) xs → has_double_var xs ≡ false → IsRising xs
single_rising xs order single i j d before within =
    by_order (get_or xs i d).var (get_or xs j d).var (nat_lt (get_or xs i d).var (get_or xs j d).var) refl (λ h. h)
    (λ le. let ge = order i j d (omega (arith, before)) within in
    absurd (false≢true (sym single ∙ double_at xs i j d before within (omega (arith, le, ge)))))

none_equal : (n : ℕ) (xs : List Term) → All (λ t. n < t.var) xs → list_any (λ u. n == u.var) xs ≡ false
none_equal n [] h = refl
none_equal n (x ∷ xs) h =
    let above = h 0 x (omega arith) in
    ap (λ b. b || list_any (λ u. n == u.var) xs) (ne_eqb n x.var (λ same. omega (arith, above, same)))
    ∙ none_equal n xs (λ k d within. h (suc k) d (omega (arith, within)))

pub rising_single : (xs : List Term) → IsRising xs → has_double_var xs ≡ false
rising_single [] h = refl
rising_single (x ∷ xs) h =
    ap₂ (λ a b. a || b) (none_equal x.var xs (pairs_head (λ (s u : Term). s.var < u.var) x xs h)) (rising_single xs (rest_rising x xs h))

all_known : {X : Type 0} (p : X → Bool) (x : X) (xs : List X) → list_all p xs ≡ true → In x xs → p x ≡ true
all_known p x [] all h = absurd h
all_known p x (y ∷ ys) all (inl e) = sym (ap p e) ∙ left_of (p y) (list_all p ys) all where
  left_of : (a b : Bool) → (a && b) ≡ true → a ≡ true
  left_of true b h = refl
  left_of false b h = h
all_known p x (y ∷ ys) all (inr h) = all_known p x ys (right_of (p y) (list_all p ys) all) h where
  right_of : (a b : Bool) → (a && b) ≡ true → b ≡ true
  right_of true b h = h
  right_of false b h = absurd cc

module _ (names : List (List ℕ)) where
  -- texts that stand among the names have one place exactly where they are one
  same_place : (a b : List ℕ) → list_any (bytes_eq a) names ≡ true → list_any (bytes_eq b) names ≡ true
      → (place_of names a == place_of names b) ≡ bytes_eq a b
  same_place a b ka kb = by_text (bytes_eq a b) refl where
    by_text : (c : Bool) → bytes_eq a b ≡ c → (place_of names a == place_of names b) ≡ c
    by_text true e = eq-eqb (place_of names a) (place_of names b) (ap (place_of names) ((bytes_eq-Decides a b).0 e))
    by_text false e = ne_eqb (place_of names a) (place_of names b) (λ same.
        false≢true (sym e ∙ (bytes_eq-Decides a b).1
        (sym ((place_is names a ka).1) ∙ ap (λ (n : ℕ). get_or names n []) same ∙ (place_is names b kb).1)))

  same_any : (name : List ℕ) (terms : List NamedTerm) → list_any (bytes_eq name) names ≡ true → ((t : NamedTerm) → In t terms → list_any (bytes_eq t.name) names ≡ true)
      → list_any (λ u. place_of names name == u.var) (map (placed names) terms) ≡ list_any (bytes_eq name) (map (λ t. t.name) terms)
  same_any name [] known all = refl
  same_any name (t ∷ terms) known all =
      ap₂ (λ a b. a || b) (same_place name t.name known (all t (inl refl))) (same_any name terms known (λ u h. all u (inr h)))

  same_double : (terms : List NamedTerm) → ((t : NamedTerm) → In t terms → list_any (bytes_eq t.name) names ≡ true)
      → has_double_var (map (placed names) terms) ≡ has_double (map (λ t. t.name) terms)
  same_double [] all = refl
  same_double (t ∷ terms) all =
      ap₂ (λ a b. a || b) (same_any t.name terms (all t (inl refl)) (λ u h. all u (inr h))) (same_double terms (λ u h. all u (inr h)))

  module _ (terms : List NamedTerm) (known : list_all (λ t. list_any (bytes_eq t.name) names) terms ≡ true) (ordered : List Term)
      (moves : IsPermutation (map (placed names) terms) ordered) where
    -- a variable stands twice exactly where its name does
    pub double_names : has_double_var ordered ≡ has_double (map (λ t. t.name) terms)
    double_names =
        sym (double_moved (map (placed names) terms) ordered moves)
        ∙ same_double terms (λ t h. all_known (λ (u : NamedTerm). list_any (bytes_eq u.name) names) t terms known h)

    module _ (distinct : AreDistinct names) (rising : IsRising ordered) (single : has_double (map (λ t. t.name) terms) ≡ false) where
      forth : (t : Term) → In t (filter (λ u. not (is_zero u.coef)) ordered) → In t (terms_from 0 names terms)
      unfolding item
      forth t h =
          let kept = in_filter (λ (u : Term). not (is_zero u.coef)) t ordered h in
          let there = moved_in t ordered (map (placed names) terms) (IsPermutation-sym (map (placed names) terms) ordered moves) (kept.0) in
          let source = in_map (placed names) t terms there in
          let named = source.0 in
          let place = place_is names named.name (all_known (λ (u : NamedTerm). list_any (bytes_eq u.name) names) named terms known (source.1.0)) in
          let value = ap (λ (n : List ℕ). coefficient_of n terms) (place.1) ∙ only_coefficient named terms single (source.1.0) in
          let coef : named.coef ≡ t.coef = ap (λ (u : Term). u.coef) (source.1.1) in
          terms_in 0 names terms (place_of names named.name) t (place.0)
          (ap₂ (λ (n : ℕ) (x : Fraction). record { var = n; coef = x }) (zero-add (place_of names named.name)) value ∙ source.1.1)
          (ap is_zero (value ∙ coef) ∙ not_true (is_zero t.coef) (kept.1)) where
            not_true : (b : Bool) → not b ≡ true → b ≡ false
            not_true true e = sym e
            not_true false e = refl

      back : (t : Term) → In t (terms_from 0 names terms) → In t (filter (λ u. not (is_zero u.coef)) ordered)
      unfolding IsItem item FoundTerm
      back t h =
          let found = in_terms 0 names terms t h in
          let i = found.0 in
          let name = get_or names i [] in
          let source = found_coefficient name terms (found.1.2) in
          let named = source.0 in
          let place : place_of names named.name ≡ 0 + i =
          ap (place_of names) (source.1.1) ∙ place_at names i distinct (found.1.0) ∙ sym (zero-add i) in
          let same : placed names named ≡ t =
          ap₂ (λ (n : ℕ) (x : Fraction). record { var = n; coef = x }) place (sym (source.1.2)) ∙ sym (found.1.1) in
          filter_in (λ (u : Term). not (is_zero u.coef)) t ordered
          (moved_in t (map (placed names) terms) ordered moves
          (subst (λ (u : Term). In u (map (placed names) terms)) same (map_in (placed names) named terms (source.1.0))))
          (ap not (ap (λ (u : Term). is_zero u.coef) (found.1.1) ∙ found.1.2))

      pub in_order : filter (λ t. not (is_zero t.coef)) ordered ≡ terms_from 0 names terms
      in_order =
          same_terms (filter (λ t. not (is_zero t.coef)) ordered) (terms_from 0 names terms)
          (AllPairs-filter (λ (s t : Term). s.var < t.var) (λ t. not (is_zero t.coef)) ordered rising) (rising_from 0 names terms) forth back

-- terms in order, of which no neighbours have one variable, rise
pub adjacent_rising : (xs : List Term) → IsNonDecreasingBy (λ (t : Term). t.var) xs
    → ((k : ℕ) (d : Term) → suc k < length xs → (get_or xs k d).var < (get_or xs (suc k) d).var) → IsRising xs
adjacent_rising xs order next i j d before within =
    let one = next i d (omega (arith, before, within)) in
    let rest = order (suc i) j d (omega (arith, before)) within in
    omega (arith, one, rest)
