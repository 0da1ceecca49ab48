-- A list with the item at a place changed or taken away.
use Rattle.std.proofs.Common.{◌≡◌, refl, sym, ◌∙◌, ap, arith, ℕ, zero, suc, ◌+◌, ◌-◌, ◌<◌, ◌≤◌, nat_lt, Bool, true, false, not, cond, ◌&&◌, ◌||◌}
use Rattle.std.proofs.Common.{List, [], ◌∷◌, ◌++◌, length, take, drop, filter, set, slice_get, get_or, Option, Some, None, sum_by}
use Rattle.std.specs.List.{list_any, remove}
use Rattle.std.specs.Option.{option_map_or}
use Rattle.std.proofs.lemmas.Bool.{lt-ltb}
use Rattle.std.proofs.lemmas.List.Sums.{get_or-le-sum_by, sum_by-set}
use Rattle.model_data.specs.Lawful.{term_count}
use Rattle.model_data.specs.declared.limits.TheConstants.{MAX_ROWS, MAX_TERMS, MAX_VARS}
use Rattle.model_data.specs.declared.model.Model.{Model}
use Rattle.model_data.specs.declared.model.Row.{Row}
use Rattle.model_data.specs.declared.model.Term.{Term}
use Rattle.model_core.specs.Effect.{in_row}
use Rattle.model_core.specs.Field.{at_place}
use Rattle.model_core.specs.One.{is_too_large}

pub at_place-set : {X : Type 0} (change : X → X) (xs : List X) (i : ℕ) (d : X) → i < length xs → at_place i change xs ≡ set xs i (change (get_or xs i d))
at_place-set change [] i d within = absurd (omega (arith, within))
at_place-set change (x ∷ xs) zero d within = refl
at_place-set change (x ∷ xs) (suc i) d within =
    behind (slice_get xs i) ∙ ap (λ l. x ∷ l) (at_place-set change xs i d (omega (arith, within))) where
      behind : (o : Option _) → option_map_or (λ y. x ∷ set xs i (change y)) o (x ∷ xs) ≡ x ∷ option_map_or (λ y. set xs i (change y)) o xs
      behind (Some y) = refl
      behind None = refl

swap_or : (a b c : Bool) → (a || (b || c)) ≡ (b || (a || c))
swap_or true true c = refl
swap_or true false c = refl
swap_or false b c = refl

module _ {X : Type 0} (f : X → Bool) where
  -- an item passes where the one at the place does, or one of the others
  pub any-remove : (xs : List X) (i : ℕ) (d : X) → i < length xs → list_any f xs ≡ (f (get_or xs i d) || list_any f (remove xs i))
  any-remove [] i d within = absurd (omega (arith, within))
  any-remove (x ∷ xs) zero d within = refl
  any-remove (x ∷ xs) (suc i) d within =
      ap (λ r. f x || r) (any-remove xs i d (omega (arith, within))) ∙ swap_or (f x) (f (get_or xs i d)) (list_any f (remove xs i))

  pub any-set : (xs : List X) (i : ℕ) (y : X) → i < length xs → list_any f (set xs i y) ≡ (f y || list_any f (remove xs i))
  any-set [] i y within = absurd (omega (arith, within))
  any-set (x ∷ xs) zero y within = refl
  any-set (x ∷ xs) (suc i) y within =
      ap (λ r. f x || r) (any-set xs i y (omega (arith, within))) ∙ swap_or (f x) (f y) (list_any f (remove xs i))

  any_not_step : (b : Bool) (x : X) (ys : List X) → f x ≡ b → list_any f ys ≡ false → list_any f (cond (not b) (x ∷ ys) ys) ≡ false
  any_not_step true x ys e h = h
  any_not_step false x ys e h = ap (λ b. b || list_any f ys) e ∙ h

  -- where those that pass are taken away, none is left
  pub any-filter_not : (xs : List X) → list_any f (filter (λ x. not (f x)) xs) ≡ false
  any-filter_not [] = refl
  any-filter_not (x ∷ xs) = any_not_step (f x) x (filter (λ x. not (f x)) xs) refl (any-filter_not xs)

and_not_step : (a b more rest : Bool) → (b || more) ≡ false → (more ≡ false → rest ≡ a) → (c : Bool) → ((c && not b) || rest) ≡ (c || a)
and_not_step a true more rest h k c = absurd cc
and_not_step a false more rest h k true = refl
and_not_step a false more rest h k false = k h

-- a test for what no item has leaves the other one as it is
pub any-and_not : {X : Type 0} (f g : X → Bool) (xs : List X) → list_any g xs ≡ false → list_any (λ x. f x && not (g x)) xs ≡ list_any f xs
any-and_not f g [] h = refl
any-and_not f g (x ∷ xs) h =
    and_not_step (list_any f xs) (g x) (list_any g xs) (list_any (λ x. f x && not (g x)) xs) h (any-and_not f g xs) (f x)

-- how many terms there are where those of one row have changed
pub count_changed : (m : Model) (i : ℕ) (change : List Term → List Term) (d : Row) → i < length m.rows
    → term_count (record m { rows = at_place i (in_row change) m.rows }) + length (get_or m.rows i d).terms
    ≡ term_count m + length (change (get_or m.rows i d).terms)
count_changed m i change d within =
    ap (λ (rows : List Row). sum_by (λ (r : Row). length r.terms) rows + length (get_or m.rows i d).terms) (at_place-set (in_row change) m.rows i d within)
    ∙ sum_by-set (λ (r : Row). length r.terms) m.rows i (in_row change (get_or m.rows i d)) d within

pub count_of_row : (m : Model) (i : ℕ) (d : Row) → i < length m.rows → length (get_or m.rows i d).terms ≤ term_count m
count_of_row m i d within = get_or-le-sum_by (λ (r : Row). length r.terms) m.rows i d within

or_true : (b : Bool) → (b || true) ≡ true
or_true true = refl
or_true false = refl

pub too_many_terms : (m : Model) → MAX_TERMS < term_count m → is_too_large m ≡ true
too_many_terms m h =
    let others = nat_lt MAX_VARS (length m.vars) || nat_lt MAX_ROWS (length m.rows) in
    ap (λ b. others || b) (lt-ltb MAX_TERMS (term_count m) h) ∙ or_true others

-- the count of terms where those of one row have changed
pub counted_after : (m : Model) (i : ℕ) (change : List Term → List Term) (r : Row) (seen : List Term) (terms after : ℕ) → i < length m.rows
    → get_or m.rows i r ≡ r → seen ≡ r.terms → terms ≡ term_count m → after ≡ length (change seen)
    → terms - length seen + after ≡ term_count (record m { rows = at_place i (in_row change) m.rows })
counted_after m i change r seen terms after within read seen_is terms_are after_is =
    let new = count_changed m i change r within in
    let most = count_of_row m i r within in
    let old : length (get_or m.rows i r).terms ≡ length seen = ap (λ (s : Row). length s.terms) read ∙ ap length (sym seen_is) in
    let changed : length (change (get_or m.rows i r).terms) ≡ length (change seen) =
    ap (λ (s : Row). length (change s.terms)) read ∙ ap (λ (l : List Term). length (change l)) (sym seen_is) in
    omega (arith, new, most, old, changed, terms_are, after_is)

-- a list of the same length takes the place of all items
pub whole_list : {X : Type 0} (new old : List X) → length new ≡ length old → take (length old) (new ++ drop (length new) old) ≡ new
whole_list [] [] e = refl
whole_list [] (y ∷ old) e = absurd (omega (arith, e))
whole_list (x ∷ new) [] e = absurd (omega (arith, e))
whole_list (x ∷ new) (y ∷ old) e = ap (λ l. x ∷ l) (whole_list new old (omega (arith, e)))
