-- The weights of a leaf prove a bound of the objective at each of its points, or that it has none.
use Rattle.std.proofs.Common.{◌≡◌, refl, sym, ◌∙◌, ap, ap₂, subst, subst₂, ℕ, suc, ◌+◌, ◌<◌, ℤ, pos, IsTrue, List, [], ◌∷◌, ◌++◌, map, zip, length, All, arith, add-zero}
use Rattle.std.specs.Prelude.{slice_index_or}
use Rattle.std.proofs.Math.Nat.{mul-pos}
use Rattle.std.proofs.lemmas.List.Elements.{All-cons, All-head, All-nil, All-tail}
use Rattle.frac128.specs.Fraction.{Fraction, exact_sum, lowest, negation, zero_value}
use Rattle.frac128.specs.Order.{IsAtMost, IsBelow}
use Rattle.frac128.proofs.Field.{apart_of-zero, exact_product-negation_left, exact_product-zero_left, exact_sum-zero_left, exact_sum_comm, negation-negation, negation-sum}
use Rattle.frac128.proofs.Ordered.{IsAtMost-negation, IsAtMost-sum, IsAtMost-sums, IsAtMost_trans, IsBelow-not}
use Rattle.model_data.specs.Lawful.{IsLawful}
use Rattle.model_data.specs.declared.model.Direction.{Direction}
use Rattle.model_data.specs.declared.model.Direction.TheVariants.{Minimize, Maximize}
use Rattle.model_data.specs.declared.model.Model.{Model}
use Rattle.model_data.specs.declared.model.Var.{Var}
use Rattle.model_data.specs.declared.solution.Weight.{Weight}
use Rattle.model_data.specs.declared.solution.Weights.{Weights}
use Rattle.solve_defs.specs.Bounds.{Bounds, effective_bounds}
use Rattle.solve_defs.specs.Certificates.{look_at, lower_of, may_weigh_bound, may_weigh_row, nth, row_share, share, side_steps, sum_steps, upper_of}
use Rattle.solve_defs.specs.LeafWeights.{Combines, IsNoBetterThanSide, no_coefs, objective_to_maximize, side_on}
use Rattle.solve_defs.specs.Looks.{Holds, Look, minus, plus, total_of}
use Rattle.solve_defs.specs.Points.{HasNoPoint, IsFeasible, Ratio, objective_value, ratio, relaxation}
use Rattle.solve_defs.specs.Values.{turned}
use Rattle.solve_defs.specs.declared.cut.Cut.{Cut}
use Rattle.solve_defs.specs.declared.verdict.Place.TheVariants.{LeafSign}
use Rattle.solve_defs.proofs.LeafShares.{IsKeptRow, low_at_most, row_at_most, up_at_most}
use Rattle.solve_defs.proofs.LeafSums.{amount, combined, combined_is, kind-at_most, kind_sum, kinds, low_side, row_side, sides, total_of-steps, up_side}
use Rattle.solve_defs.proofs.Places.{places}
use Rattle.solve_defs.proofs.PointValues.{at_point, low, low-at_most, low-objective_value, low-ratio, low_below, weighted_den}
use Rattle.solve_defs.proofs.Relaxed.{All-nth, point_long, point_within}
use Rattle.frac128.proofs.Sums.{◌⊕◌, ◌⊗◌, total, total_low}

-- ---- lists, taken apart

pub All-left : {A : Type 0} (P : A → Type 0) (xs ys : List A) → All P (xs ++ ys) → All P xs
All-left P [] ys each = All-nil P
All-left P (x ∷ xs) ys each = All-cons P x xs (All-head P x (xs ++ ys) each) (All-left P xs ys (All-tail P x (xs ++ ys) each))

pub All-right : {A : Type 0} (P : A → Type 0) (xs ys : List A) → All P (xs ++ ys) → All P ys
All-right P [] ys each = each
All-right P (x ∷ xs) ys each = All-right P xs ys (All-tail P x (xs ++ ys) each)

pub All-unmapped : {A B : Type 0} (P : B → Type 0) (f : A → B) (xs : List A) → All P (map f xs) → All (λ x. P (f x)) xs
All-unmapped P f [] each = All-nil (λ x. P (f x))
All-unmapped P f (x ∷ xs) each = All-cons (λ y. P (f y)) x xs (All-head P (f x) (map f xs) each) (All-unmapped P f xs (All-tail P (f x) (map f xs) each))

-- ---- signs

record Signs (m : Model) (bounds : List Bounds) (weights : Weights) : Type 0 where
  rows : All (λ w. IsTrue (may_weigh_row (nth m.rows w.place) w.weight)) weights.rows
  lows : All (λ w. IsTrue (may_weigh_bound (lower_of (nth bounds w.place)) w.weight)) weights.lows
  ups : All (λ w. IsTrue (may_weigh_bound (upper_of (nth bounds w.place)) w.weight)) weights.ups

signs_of : (m : Model) (cuts : List Cut) (leaf : ℕ) (weights : Weights) (coefs : List Fraction) → Combines m cuts leaf weights coefs → Signs m (effective_bounds m cuts) weights
signs_of m cuts leaf weights coefs combines =
    let bounds = effective_bounds m cuts in
    let row : Weight → Look = λ w. look_at (LeafSign leaf 0 w.place) (may_weigh_row (nth m.rows w.place) w.weight) in
    let lower : Weight → Look = λ w. look_at (LeafSign leaf 1 w.place) (may_weigh_bound (lower_of (nth bounds w.place)) w.weight) in
    let upper : Weight → Look = λ w. look_at (LeafSign leaf 2 w.place) (may_weigh_bound (upper_of (nth bounds w.place)) w.weight) in
    let front = All-left Holds (map row weights.rows ++ map lower weights.lows) (map upper weights.ups) combines.signs in
    record {
      rows = All-unmapped Holds row weights.rows (All-left Holds (map row weights.rows) (map lower weights.lows) front);
      lows = All-unmapped Holds lower weights.lows (All-right Holds (map row weights.rows) (map lower weights.lows) front);
      ups = All-unmapped Holds upper weights.ups (All-right Holds (map row weights.rows ++ map lower weights.lows) (map upper weights.ups) combines.signs);
    }

-- ---- all the weights

kept_rows : (m : Model) (cuts : List Cut) (X : List ℤ) (d : ℕ) → IsLawful m → IsFeasible (relaxation m cuts) X d → All (IsKeptRow (length m.vars) X d) m.rows
kept_rows m cuts X d lawful feasible k default within =
    record { rising = (lawful.rows k default within).rising; within = (lawful.rows k default within).places; keeps = feasible.rows k default within }

-- What the weights make of a feasible point is at most the right sides with their weights.
pub combined_at_most : (m : Model) (cuts : List Cut) (leaf : ℕ) (weights : Weights) (coefs : List Fraction) (X : List ℤ) (d : ℕ)
    → IsLawful m → Combines m cuts leaf weights coefs → IsFeasible (relaxation m cuts) X d → length coefs ≡ length m.vars
    → IsAtMost (combined (at_point X d) 0 coefs) (total amount (side_steps m (effective_bounds m cuts) weights))
combined_at_most m cuts leaf weights coefs X d lawful combines feasible long =
    let bounds = effective_bounds m cuts in
    let x = at_point X d in
    let n = length m.vars in
    let js = places 0 n in
    let signs = signs_of m cuts leaf weights coefs combines in
    let some = feasible.above_zero in
    let of_rows = kind-at_most x (λ j. row_share m j) (row_side m) weights.rows js
    (λ k default within. row_at_most (slice_index_or weights.rows k default).weight n X d some (nth m.rows (slice_index_or weights.rows k default).place)
    (All-nth (IsKeptRow n X d) m.rows (slice_index_or weights.rows k default).place (kept_rows m cuts X d lawful feasible)) (signs.rows k default within)) in
    let of_lows = kind-at_most x (λ j. share minus (suc j)) (low_side bounds) weights.lows js
    (λ k default within. low_at_most bounds n X d (slice_index_or weights.lows k default) (slice_index_or weights.lows k default).place some refl
    (λ v. point_within m cuts X d v feasible) (signs.lows k default within)) in
    let of_ups = kind-at_most x (λ j. share plus (suc j)) (up_side bounds) weights.ups js
    (λ k default within. up_at_most bounds n X d (slice_index_or weights.ups k default) (slice_index_or weights.ups k default).place some refl
    (λ v. point_within m cuts X d v feasible) (signs.ups k default within)) in
    subst₂ IsAtMost
    (sym (combined_is m leaf weights x 0 coefs combines.sums ∙ ap (λ k. total (λ j. total amount (sum_steps m weights j (suc j)) ⊗ x j) (places 0 k)) long ∙ kinds m weights x js))
    (sym (sides m bounds weights))
    (IsAtMost-sums
    (kind_sum x (λ j. row_share m j) weights.rows js ⊕ kind_sum x (λ j. share minus (suc j)) weights.lows js)
    (total (row_side m) weights.rows ⊕ total (low_side bounds) weights.lows)
    (kind_sum x (λ j. share plus (suc j)) weights.ups js)
    (total (up_side bounds) weights.ups)
    (IsAtMost-sums (kind_sum x (λ j. row_share m j) weights.rows js) (total (row_side m) weights.rows) (kind_sum x (λ j. share minus (suc j)) weights.lows js)
    (total (low_side bounds) weights.lows) of_rows of_lows)
    of_ups)

-- ---- the objective

zipped : (coefs : List Fraction) (X : List ℤ) (d : ℕ) (x : ℕ → Fraction) (place : ℕ) → length X ≡ length coefs → ((i : ℕ) → x (place + i) ≡ lowest (slice_index_or X i (pos 0)) d)
    → total (λ p. p.0 ⊗ lowest p.1 d) (zip coefs X) ≡ combined x place coefs
zipped [] X d x place long same = refl
zipped (coef ∷ coefs) [] d x place long same = absurd (omega (arith, long))
zipped (coef ∷ coefs) (n ∷ X) d x place long same =
    ap₂ exact_sum (ap (λ y. coef ⊗ y) (sym (same 0) ∙ ap x (add-zero place)))
    (zipped coefs X d x (suc place) (omega (arith, long)) (λ i. ap x (next i) ∙ same (suc i)))
  where
    next : (i : ℕ) → suc place + i ≡ place + suc i
    next i = omega arith

length-map : {A B : Type 0} (f : A → B) (xs : List A) → length (map f xs) ≡ length xs
length-map f [] = refl
length-map f (x ∷ xs) = ap suc (length-map f xs)

-- the objective's terms at a point
abbrev objective_terms : Model → (ℕ → Fraction) → Fraction
objective_terms m x = combined x 0 (map (λ v. v.obj) m.vars)

value_is : (m : Model) (X : List ℤ) (d : ℕ) → 0 < d → length X ≡ length m.vars → low (objective_value m X d) ≡ objective_terms m (at_point X d) ⊕ m.constant
value_is m X d some long =
    low-objective_value m X d some
    ∙ ap (λ s. s ⊕ m.constant)
    (zipped (map (λ v. v.obj) m.vars) X d (at_point X d) 0 (long ∙ sym (length-map (λ v. v.obj) m.vars)) (λ i. ap (at_point X d) (add-zero_left i)))
  where
    add-zero_left : (i : ℕ) → 0 + i ≡ i
    add-zero_left i = omega arith

negated : (x : ℕ → Fraction) (place : ℕ) (vars : List Var) → combined x place (map (λ v. negation v.obj) vars) ≡ negation (combined x place (map (λ v. v.obj) vars))
negated x place [] = refl
negated x place (v ∷ vars) =
    ap₂ exact_sum (exact_product-negation_left v.obj (x place)) (negated x (suc place) vars)
    ∙ sym (negation-sum (v.obj ⊗ x place) (combined x (suc place) (map (λ w. w.obj) vars)))

to_maximize : (direction : Direction) (x : ℕ → Fraction) (place : ℕ) (vars : List Var) → combined x place (map (λ v. turned direction v.obj) vars) ≡ turned direction (combined x place (map (λ v. v.obj) vars))
to_maximize Minimize x place vars = negated x place vars
to_maximize Maximize x place vars = refl

nothing : (x : ℕ → Fraction) (place : ℕ) (vars : List Var) → combined x place (map (λ _. zero_value) vars) ≡ zero_value
nothing x place [] = refl
nothing x place (v ∷ vars) =
    ap (λ s. s ⊕ combined x (suc place) (map (λ _. zero_value) vars)) (exact_product-zero_left (x place))
    ∙ ap (λ s. zero_value ⊕ s) (nothing x (suc place) vars) ∙ exact_sum-zero_left zero_value apart_of-zero

-- ---- the bound

by_direction : (direction : Direction) (value : Ratio) (terms constant right side : Fraction) → 0 < value.den → low value ≡ terms ⊕ constant → IsAtMost (turned direction terms) right
    → side ⊕ zero_value ≡ turned direction constant ⊕ right → IsNoBetterThanSide direction value side
by_direction Maximize value terms constant right side some value_says h side_says =
    low-at_most value (ratio side) some (omega arith)
    (subst₂ IsAtMost (sym value_says) (exact_sum_comm right constant ∙ sym side_says ∙ sym (low-ratio side)) (IsAtMost-sum terms right constant h))
by_direction Minimize value terms constant right side some value_says h side_says =
    low-at_most (ratio (negation side)) value (omega arith) some
    (subst₂ IsAtMost
    (ap negation (exact_sum_comm right (negation constant) ∙ sym side_says) ∙ negation-sum side zero_value ∙ sym (low-ratio (negation side)))
    (ap negation (sym (negation-sum terms constant)) ∙ negation-negation (terms ⊕ constant) ∙ sym value_says)
    (IsAtMost-negation (negation terms ⊕ negation constant) (right ⊕ negation constant) (IsAtMost-sum (negation terms) right (negation constant) h)))

pub objective_den : (m : Model) (X : List ℤ) (d : ℕ) → 0 < d → 0 < (objective_value m X d).den
objective_den m X d some = mul-pos (mul-pos (weighted_den (zip (map (λ v. v.obj) m.vars) X)) some) (omega arith)

-- No feasible point has a better value than the side.
pub side_bounds : (m : Model) (cuts : List Cut) (leaf : ℕ) (weights : Weights) (X : List ℤ) (d : ℕ) → IsLawful m → Combines m cuts leaf weights (objective_to_maximize m)
    → IsFeasible (relaxation m cuts) X d → IsNoBetterThanSide m.direction (objective_value m X d) (side_on (turned m.direction m.constant) m cuts weights)
side_bounds m cuts leaf weights X d lawful combines feasible =
    let steps = side_steps m (effective_bounds m cuts) weights in
    let constant = turned m.direction m.constant in
    by_direction m.direction (objective_value m X d) (objective_terms m (at_point X d)) m.constant (total amount steps) (total_of constant steps)
    (objective_den m X d feasible.above_zero)
    (value_is m X d feasible.above_zero (point_long m cuts X d feasible))
    (subst (λ s. IsAtMost s (total amount steps)) (to_maximize m.direction (at_point X d) 0 m.vars)
    (combined_at_most m cuts leaf weights (objective_to_maximize m) X d lawful combines feasible (length-map (λ v. turned m.direction v.obj) m.vars)))
    (total_of-steps constant steps)

-- Where the side is below 0 and there are no coefficients, there is no feasible point.
pub no_point : (m : Model) (cuts : List Cut) (leaf : ℕ) (weights : Weights) → IsLawful m → Combines m cuts leaf weights (no_coefs m)
    → IsBelow (side_on zero_value m cuts weights) zero_value → HasNoPoint (relaxation m cuts)
no_point m cuts leaf weights lawful combines below X d feasible =
    let steps = side_steps m (effective_bounds m cuts) weights in
    let side = total_of zero_value steps in
    let at_least : IsAtMost zero_value (total amount steps) =
    subst (λ s. IsAtMost s (total amount steps)) (nothing (at_point X d) 0 m.vars)
    (combined_at_most m cuts leaf weights (no_coefs m) X d lawful combines feasible (length-map (λ _. zero_value) m.vars)) in
    let same : total amount steps ≡ low (ratio side) =
    sym (exact_sum-zero_left (total amount steps) (total_low amount steps)) ∙ sym (total_of-steps zero_value steps) ∙ sym (low-ratio side) in
    IsBelow-not side zero_value below (IsAtMost_trans zero_value (low (ratio side)) side (subst (λ s. IsAtMost zero_value s) same at_least) (low_below side))
