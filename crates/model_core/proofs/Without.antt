-- Rows without the terms of a variable.
use Rattle.std.proofs.Common.{◌≡◌, refl, ap, arith, ℕ, ◌≤◌, ◌==◌, Bool, true, false, cond, not, List, [], ◌∷◌, length, map, filter, sum_by}
use Rattle.std.proofs.lemmas.List.{length-map}
use Rattle.std.proofs.lemmas.List.Sums.{sum_by-cons}
use Rattle.model_data.specs.declared.model.Row.{Row}
use Rattle.model_data.specs.declared.model.Term.{Term}
use Rattle.model_core.specs.Effect.{in_row, moved, without_place}

filter_step : {X : Type 0} (b : Bool) (x : X) (ys xs : List X) → length ys ≤ length xs → length (cond b (x ∷ ys) ys) ≤ length (x ∷ xs)
filter_step true x ys xs h = omega (arith, h)
filter_step false x ys xs h = omega (arith, h)

length-filter-le : {X : Type 0} (p : X → Bool) (xs : List X) → length (filter p xs) ≤ length xs
length-filter-le p [] = omega arith
length-filter-le p (x ∷ xs) = filter_step (p x) x (filter p xs) xs (length-filter-le p xs)

fewer : (place : ℕ) (terms : List Term) → length (without_place place terms) ≤ length terms
fewer place terms =
    let same = length-map (filter (λ t. not (t.var == place)) terms) (moved place) in
    let less = length-filter-le (λ (t : Term). not (t.var == place)) terms in
    omega (arith, same, less)

pub fewer_terms : (place : ℕ) (rows : List Row) → sum_by (λ r. length r.terms) (map (in_row (without_place place)) rows) ≤ sum_by (λ r. length r.terms) rows
fewer_terms place [] = omega arith
fewer_terms place (r ∷ rows) =
    let new = sum_by-cons (λ (s : Row). length s.terms) (in_row (without_place place) r) (map (in_row (without_place place)) rows) in
    let old = sum_by-cons (λ (s : Row). length s.terms) r rows in
    let one = fewer place r.terms in
    let rest = fewer_terms place rows in
    omega (arith, new, old, one, rest)

pub same_names : (change : List Term → List Term) (rows : List Row) → map (λ r. r.name) (map (in_row change) rows) ≡ map (λ r. r.name) rows
same_names change [] = refl
same_names change (r ∷ rows) = ap (λ l. r.name ∷ l) (same_names change rows)
