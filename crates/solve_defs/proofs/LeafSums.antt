-- The looks of a leaf as sums: what the steps come to, and what the weights of one kind make of the variables.
use Rattle.std.proofs.Common.{◌≡◌, refl, sym, ◌∙◌, ap, ap₂, subst, ℕ, suc, IsTrue, List, [], ◌∷◌, ◌++◌, map, length, filter_map, Option, All, option_map}
use Rattle.std.proofs.lemmas.List.Elements.{All-head, All-tail}
use Rattle.frac128.specs.Fraction.{Fraction, exact_sum, negation, zero_value}
use Rattle.frac128.specs.Order.{IsAtMost}
use Rattle.frac128.proofs.Field.{apart_of-product, exact_product-sum, exact_product-zero_left, exact_sum-zero_left, exact_sum-zero_right, exact_sum_assoc}
use Rattle.model_data.specs.declared.model.Model.{Model}
use Rattle.model_data.specs.declared.solution.Weight.{Weight}
use Rattle.model_data.specs.declared.solution.Weights.{Weights}
use Rattle.solve_defs.specs.Bounds.{Bounds}
use Rattle.solve_defs.specs.Certificates.{lower_of, nth, row_share, share, side_of, side_steps, sum_steps, sums_from, upper_of}
use Rattle.solve_defs.specs.Looks.{Holds, Look, Step, minus, minus_times, moved, plus, plus_times, total_of}
use Rattle.solve_defs.specs.Values.{is_same}
use Rattle.solve_defs.specs.declared.verdict.Place.TheVariants.{LeafSum}
use Rattle.solve_defs.proofs.Places.{places}
use Rattle.solve_defs.proofs.PointValues.{low-ratio, same_holds}
use Rattle.frac128.proofs.Sums.{◌⊕◌, ◌⊗◌, of_some, total, total-append, total-at_most, total-exchange, total-filter_map, total-map, total-plus, total-product, total-same, total_low}

-- ---- steps

-- what a step adds
abbrev pub amount : Step → Fraction
amount (plus x) = x
amount (minus x) = negation x
amount (plus_times x y) = x ⊗ y
amount (minus_times x y) = negation (x ⊗ y)

moved_is : (start : Fraction) (step : Step) → moved start step ≡ start ⊕ amount step
moved_is start (plus x) = refl
moved_is start (minus x) = refl
moved_is start (plus_times x y) = refl
moved_is start (minus_times x y) = refl

-- the same value, 0 added to bring it to lowest terms
pub total_of-steps : (start : Fraction) (steps : List Step) → total_of start steps ⊕ zero_value ≡ start ⊕ total amount steps
total_of-steps start [] = refl
total_of-steps start (step ∷ steps) =
    total_of-steps (moved start step) steps ∙ ap (λ s. s ⊕ total amount steps) (moved_is start step) ∙ exact_sum_assoc start (amount step) (total amount steps)

-- ---- the coefficients

-- the coefficients times the values of their variables, of which the first has this place
abbrev pub combined : (ℕ → Fraction) → ℕ → List Fraction → Fraction
combined x place [] = zero_value
combined x place (coef ∷ coefs) = coef ⊗ x place ⊕ combined x (suc place) coefs

-- 0 added to a factor
factor_low : (a y : Fraction) → (a ⊕ zero_value) ⊗ y ≡ a ⊗ y
factor_low a y =
    exact_product-sum a zero_value y ∙ ap (λ s. a ⊗ y ⊕ s) (exact_product-zero_left y) ∙ exact_sum-zero_right (a ⊗ y) (apart_of-product a y)

coef_is : (coef y : Fraction) (steps : List Step) → IsTrue (is_same (total_of zero_value steps) coef) → coef ⊗ y ≡ total amount steps ⊗ y
coef_is coef y steps shown =
    sym (factor_low coef y)
    ∙ ap (λ s. s ⊗ y) (sym (low-ratio coef) ∙ sym (same_holds (total_of zero_value steps) coef shown) ∙ low-ratio (total_of zero_value steps)
    ∙ total_of-steps zero_value steps ∙ exact_sum-zero_left (total amount steps) (total_low amount steps))

-- Where the sums hold, the coefficients are what the weights make of the rows and the bounds.
pub combined_is : (m : Model) (leaf : ℕ) (weights : Weights) (x : ℕ → Fraction) (place : ℕ) (coefs : List Fraction) → All Holds (sums_from m leaf weights place coefs)
    → combined x place coefs ≡ total (λ j. total amount (sum_steps m weights j (suc j)) ⊗ x j) (places place (length coefs))
combined_is m leaf weights x place [] hold = refl
combined_is m leaf weights x place (coef ∷ coefs) hold =
    let first : Look = record { place = LeafSum leaf (suc place); start = zero_value; steps = sum_steps m weights place (suc place); holds = λ sum. is_same sum coef } in
    ap₂ exact_sum (coef_is coef (x place) (sum_steps m weights place (suc place)) (All-head Holds first (sums_from m leaf weights (suc place) coefs) hold))
    (combined_is m leaf weights x (suc place) coefs (All-tail Holds first (sums_from m leaf weights (suc place) coefs) hold))

-- ---- the weights of one kind

-- what weights of one kind make of the variables
abbrev pub kind_sum : (ℕ → Fraction) → (ℕ → Weight → Option Step) → List Weight → List ℕ → Fraction
kind_sum x h ws js = total (λ j. total amount (filter_map (h j) ws) ⊗ x j) js

-- by variables, or by weights
by_weights : (x : ℕ → Fraction) (h : ℕ → Weight → Option Step) (ws : List Weight) (js : List ℕ) → kind_sum x h ws js ≡ total (λ w. total (λ j. of_some amount (h j w) ⊗ x j) js) ws
by_weights x h ws js =
    total-same (λ j. total amount (filter_map (h j) ws) ⊗ x j) (λ j. total (λ w. of_some amount (h j w) ⊗ x j) ws) js
    (λ j. ap (λ s. s ⊗ x j) (total-filter_map amount (h j) ws) ∙ total-product (λ w. of_some amount (h j w)) ws (x j))
    ∙ total-exchange (λ w j. of_some amount (h j w) ⊗ x j) ws js

-- Where each weight's own share is at most its side, so is all of it.
pub kind-at_most : (x : ℕ → Fraction) (h : ℕ → Weight → Option Step) (side : Weight → Fraction) (ws : List Weight) (js : List ℕ)
    → All (λ w. IsAtMost (total (λ j. of_some amount (h j w) ⊗ x j) js) (side w)) ws → IsAtMost (kind_sum x h ws js) (total side ws)
kind-at_most x h side ws js each =
    subst (λ s. IsAtMost s (total side ws)) (sym (by_weights x h ws js)) (total-at_most (λ w. total (λ j. of_some amount (h j w) ⊗ x j) js) side ws each)

-- ---- the three kinds

three_products : (a b c y : Fraction) → (a ⊕ b ⊕ c) ⊗ y ≡ a ⊗ y ⊕ b ⊗ y ⊕ c ⊗ y
three_products a b c y = exact_product-sum (a ⊕ b) c y ∙ ap (λ s. s ⊕ c ⊗ y) (exact_product-sum a b y)

three_totals : (f g h : ℕ → Fraction) (js : List ℕ) → total (λ j. f j ⊕ g j ⊕ h j) js ≡ total f js ⊕ total g js ⊕ total h js
three_totals f g h js = total-plus (λ j. f j ⊕ g j) h js ∙ ap (λ s. s ⊕ total h js) (total-plus f g js)

three_lists : (xs ys zs : List Step) → total amount (xs ++ ys ++ zs) ≡ total amount xs ⊕ total amount ys ⊕ total amount zs
three_lists xs ys zs = total-append amount (xs ++ ys) zs ∙ ap (λ s. s ⊕ total amount zs) (total-append amount xs ys)

pub kinds : (m : Model) (weights : Weights) (x : ℕ → Fraction) (js : List ℕ)
    → total (λ j. total amount (sum_steps m weights j (suc j)) ⊗ x j) js
    ≡ kind_sum x (λ j. row_share m j) weights.rows js ⊕ kind_sum x (λ j. share minus (suc j)) weights.lows js ⊕ kind_sum x (λ j. share plus (suc j)) weights.ups js
kinds m weights x js =
    total-same
    (λ j. total amount (sum_steps m weights j (suc j)) ⊗ x j)
    (λ j. total amount (filter_map (row_share m j) weights.rows) ⊗ x j ⊕ total amount (filter_map (share minus (suc j)) weights.lows) ⊗ x j
    ⊕ total amount (filter_map (share plus (suc j)) weights.ups) ⊗ x j)
    js
    (λ j. ap (λ s. s ⊗ x j) (three_lists (filter_map (row_share m j) weights.rows) (filter_map (share minus (suc j)) weights.lows) (filter_map (share plus (suc j)) weights.ups))
    ∙ three_products (total amount (filter_map (row_share m j) weights.rows)) (total amount (filter_map (share minus (suc j)) weights.lows))
    (total amount (filter_map (share plus (suc j)) weights.ups)) (x j))
    ∙ three_totals
    (λ j. total amount (filter_map (row_share m j) weights.rows) ⊗ x j)
    (λ j. total amount (filter_map (share minus (suc j)) weights.lows) ⊗ x j)
    (λ j. total amount (filter_map (share plus (suc j)) weights.ups) ⊗ x j)
    js

-- what a weight has of the side
abbrev pub row_side : Model → Weight → Fraction
row_side m w = w.weight ⊗ side_of (nth m.rows w.place)

abbrev pub low_side : List Bounds → Weight → Fraction
low_side bounds w = of_some amount (option_map (minus_times w.weight) (lower_of (nth bounds w.place)))

abbrev pub up_side : List Bounds → Weight → Fraction
up_side bounds w = of_some amount (option_map (plus_times w.weight) (upper_of (nth bounds w.place)))

pub sides : (m : Model) (bounds : List Bounds) (weights : Weights)
    → total amount (side_steps m bounds weights) ≡ total (row_side m) weights.rows ⊕ total (low_side bounds) weights.lows ⊕ total (up_side bounds) weights.ups
sides m bounds weights =
    let rows = map (λ w. plus_times w.weight (side_of (nth m.rows w.place))) weights.rows in
    let lows = filter_map (λ w. option_map (minus_times w.weight) (lower_of (nth bounds w.place))) weights.lows in
    let ups = filter_map (λ w. option_map (plus_times w.weight) (upper_of (nth bounds w.place))) weights.ups in
    three_lists rows lows ups
    ∙ ap₂ exact_sum
    (ap₂ exact_sum
    (total-map amount (λ w. plus_times w.weight (side_of (nth m.rows w.place))) weights.rows)
    (total-filter_map amount (λ w. option_map (minus_times w.weight) (lower_of (nth bounds w.place))) weights.lows))
    (total-filter_map amount (λ w. option_map (plus_times w.weight) (upper_of (nth bounds w.place))) weights.ups)
