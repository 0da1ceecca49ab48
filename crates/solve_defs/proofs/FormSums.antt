-- Sums of coefficients times values: of columns, of the variables that they stand for, and of a row's terms.
use Rattle.std.proofs.Common.{◌≡◌, ◌≢◌, refl, sym, ◌∙◌, ap, ap₂, ℕ, zero, suc, ◌+◌, ◌<◌, Bool, true, false, List, [], ◌∷◌, drop, length, map, replicate, set, Option, Some, arith}
use Rattle.std.specs.Prelude.{AllPairs, unwrap_or, if◌then◌else◌, ◌==◌}
use Rattle.std.proofs.lemmas.Bool.{eq-eqb}
use Rattle.std.proofs.lemmas.Bool.Decides.{nat_tests}
use Rattle.std.proofs.lemmas.List.Sums.{sum_by-cons}
use Rattle.frac128.specs.Fraction.{Fraction, negation, one_value, zero_value}
use Rattle.frac128.proofs.Field.{apart_of-zero, exact_product-negation_left, exact_product-negation_right, exact_product-one_left, exact_product-sum_right, exact_product-zero_left, exact_product-zero_right}
use Rattle.frac128.proofs.Field.{apart_of-sum, exact_sum-zero_left, exact_sum-zero_right, negation-sum}
use Rattle.model_data.specs.declared.model.Term.{Term}
use Rattle.dictionary.specs.Dictionary.{numbers_from}
use Rattle.solve_defs.specs.Columns.{columns_sum, exact_values_from}
use Rattle.frac128.specs.Lowest.{IsInLowestTerms}
use Rattle.solve_defs.specs.StandardForm.{Shape, shifted, mirrored, free, column_count, entries, offset, width}
use Rattle.solve_defs.specs.Values.{coefficient, value_at}
use Rattle.solve_defs.proofs.FormLists.{Each, at_drop, pairs_head, pairs_tail}
use Rattle.frac128.proofs.Sums.{◌⊕◌, ◌⊗◌, sum_left_comm, sums}

-- ---- sums over columns

pub columns_sum_low : (coefs ys : List Fraction) → IsInLowestTerms (columns_sum coefs ys)
columns_sum_low [] ys = apart_of-zero
columns_sum_low (a ∷ coefs) [] = apart_of-zero
columns_sum_low (a ∷ coefs) (y ∷ ys) = apart_of-sum (a ⊗ y) (columns_sum coefs ys)

pub columns_sum-negation : (coefs ys : List Fraction) → columns_sum (map negation coefs) ys ≡ negation (columns_sum coefs ys)
columns_sum-negation [] ys = refl
columns_sum-negation (a ∷ coefs) [] = refl
columns_sum-negation (a ∷ coefs) (y ∷ ys) =
    ap₂ (λ s t. s ⊕ t) (exact_product-negation_left a y) (columns_sum-negation coefs ys) ∙ sym (negation-sum (a ⊗ y) (columns_sum coefs ys))

no_columns : (n : ℕ) (ys : List Fraction) → columns_sum (replicate n zero_value) ys ≡ zero_value
no_columns zero ys = refl
no_columns (suc n) [] = refl
no_columns (suc n) (y ∷ ys) =
    ap₂ (λ s t. s ⊕ t) (exact_product-zero_left y) (no_columns n ys) ∙ exact_sum-zero_left zero_value apart_of-zero

-- 1 in one column, and 0 in the others
pub one_column : (k : ℕ) (ys : List Fraction) → k < length ys → IsInLowestTerms (value_at ys k)
    → columns_sum (set (replicate (length ys) zero_value) k one_value) ys ≡ value_at ys k
one_column k [] below low = absurd (omega (arith, below))
one_column zero (y ∷ ys) below low =
    ap₂ (λ s t. s ⊕ t) (exact_product-one_left y low) (no_columns (length ys) ys) ∙ exact_sum-zero_right y low
one_column (suc k) (y ∷ ys) below low =
    ap₂ (λ s t. s ⊕ t) (exact_product-zero_left y) (one_column k ys (omega (arith, below)) low) ∙ exact_sum-zero_left (value_at ys k) low

-- ---- the columns' sum and the variables'

-- what stands beside a variable's columns, or 0
abbrev pub offset_value : Shape → Fraction
offset_value shape = unwrap_or (offset shape) zero_value

abbrev pub offsets : List Shape → List Fraction
offsets shapes = map offset_value shapes

shifted_step : (c l z e o : Fraction) → c ⊗ (l ⊕ z) ⊕ (e ⊕ o) ≡ (c ⊗ z ⊕ e) ⊕ (c ⊗ l ⊕ o)
shifted_step c l z e o = ap (λ t. t ⊕ (e ⊕ o)) (exact_product-sum_right c l z) ∙ sorted (c ⊗ l) (c ⊗ z)
  where
    sorted : (p q : Fraction) → (p ⊕ q) ⊕ (e ⊕ o) ≡ (q ⊕ e) ⊕ (p ⊕ o)
    sorted p q = simp sums

product-negation : (c z : Fraction) → c ⊗ negation z ≡ negation c ⊗ z
product-negation c z = exact_product-negation_right c z ∙ sym (exact_product-negation_left c z)

mirrored_step : (c u z e o : Fraction) → c ⊗ (u ⊕ negation z) ⊕ (e ⊕ o) ≡ (negation c ⊗ z ⊕ e) ⊕ (c ⊗ u ⊕ o)
mirrored_step c u z e o =
    shifted_step c u (negation z) e o ∙ ap (λ t. (t ⊕ e) ⊕ (c ⊗ u ⊕ o)) (product-negation c z)

free_step : (c y z e o : Fraction) → IsInLowestTerms o → c ⊗ (y ⊕ negation z) ⊕ (e ⊕ o) ≡ (c ⊗ y ⊕ (negation c ⊗ z ⊕ e)) ⊕ (c ⊗ zero_value ⊕ o)
free_step c y z e o low =
    mirrored_step c y z e o ∙ sorted (negation c ⊗ z) (c ⊗ y)
    ∙ ap (λ t. (c ⊗ y ⊕ (negation c ⊗ z ⊕ e)) ⊕ t) (sym (ap (λ t. t ⊕ o) (exact_product-zero_right c) ∙ exact_sum-zero_left o low))
  where
    sorted : (p q : Fraction) → (p ⊕ e) ⊕ (q ⊕ o) ≡ (q ⊕ (p ⊕ e)) ⊕ o
    sorted p q = simp sums

pub one_more : (k : ℕ) → k + 1 ≡ suc k
one_more k = omega arith

pub two_more : (k : ℕ) → k + 2 ≡ suc (suc k)
two_more k = omega arith

-- each coefficient times its variable, as columns and what stands beside them
pub columns_and_offsets : (shapes : List Shape) (column : ℕ) (cs ys zs : List Fraction) → drop column ys ≡ zs → length zs ≡ column_count shapes → length cs ≡ length shapes
    → columns_sum cs (exact_values_from column shapes ys) ≡ columns_sum (entries shapes cs) zs ⊕ columns_sum cs (offsets shapes)
columns_and_offsets [] column [] ys zs at long same = sym (exact_sum-zero_left zero_value apart_of-zero)
columns_and_offsets [] column (c ∷ cs) ys zs at long same = absurd (omega (arith, same))
columns_and_offsets (shape ∷ shapes) column [] ys zs at long same = absurd (omega (arith, same))
columns_and_offsets (shifted l u ∷ shapes) column (c ∷ cs) ys [] at long same =
    absurd (omega (arith, long, sum_by-cons width (shifted l u) shapes))
columns_and_offsets (shifted l u ∷ shapes) column (c ∷ cs) ys (z ∷ zs) at long same =
    let here = at_drop ys column zero_value z zs at in
    let rest = columns_and_offsets shapes (column + 1) cs ys zs (ap (λ k. drop k ys) (one_more column) ∙ here.1)
    (omega (arith, long, sum_by-cons width (shifted l u) shapes)) (omega (arith, same)) in
    ap₂ (λ x s. c ⊗ (l ⊕ x) ⊕ s) here.0 rest ∙ shifted_step c l z (columns_sum (entries shapes cs) zs) (columns_sum cs (offsets shapes))
columns_and_offsets (mirrored u ∷ shapes) column (c ∷ cs) ys [] at long same =
    absurd (omega (arith, long, sum_by-cons width (mirrored u) shapes))
columns_and_offsets (mirrored u ∷ shapes) column (c ∷ cs) ys (z ∷ zs) at long same =
    let here = at_drop ys column zero_value z zs at in
    let rest = columns_and_offsets shapes (column + 1) cs ys zs (ap (λ k. drop k ys) (one_more column) ∙ here.1)
    (omega (arith, long, sum_by-cons width (mirrored u) shapes)) (omega (arith, same)) in
    ap₂ (λ x s. c ⊗ (u ⊕ negation x) ⊕ s) here.0 rest ∙ mirrored_step c u z (columns_sum (entries shapes cs) zs) (columns_sum cs (offsets shapes))
columns_and_offsets (free ∷ shapes) column (c ∷ cs) ys [] at long same =
    absurd (omega (arith, long, sum_by-cons width free shapes))
columns_and_offsets (free ∷ shapes) column (c ∷ cs) ys (y ∷ []) at long same =
    absurd (omega (arith, long, sum_by-cons width free shapes))
columns_and_offsets (free ∷ shapes) column (c ∷ cs) ys (y ∷ z ∷ zs) at long same =
    let here = at_drop ys column zero_value y (z ∷ zs) at in
    let second = at_drop ys (suc column) zero_value z zs here.1 in
    let rest = columns_and_offsets shapes (column + 2) cs ys zs (ap (λ k. drop k ys) (two_more column) ∙ second.1)
    (omega (arith, long, sum_by-cons width free shapes)) (omega (arith, same)) in
    ap (λ s. c ⊗ (value_at ys column ⊕ negation (value_at ys (suc column))) ⊕ s) rest
    ∙ ap₂ (λ v w. c ⊗ (v ⊕ negation w) ⊕ (columns_sum (entries shapes cs) zs ⊕ columns_sum cs (offsets shapes))) here.0 second.0
    ∙ free_step c y z (columns_sum (entries shapes cs) zs) (columns_sum cs (offsets shapes)) (columns_sum_low cs (offsets shapes))

-- ---- the sum of a row's terms

-- the sum of each term's coefficient times its variable's value
abbrev pub terms_sum : List Term → List Fraction → Fraction
terms_sum [] xs = zero_value
terms_sum (t ∷ terms) xs = t.coef ⊗ value_at xs t.var ⊕ terms_sum terms xs

pub terms_sum_low : (terms : List Term) (xs : List Fraction) → IsInLowestTerms (terms_sum terms xs)
terms_sum_low [] xs = apart_of-zero
terms_sum_low (t ∷ terms) xs = apart_of-sum (t.coef ⊗ value_at xs t.var) (terms_sum terms xs)

chosen : (b : Bool) (x : Fraction) (o : Option Fraction) → b ≡ true → unwrap_or (if b then Some x else o) zero_value ≡ x
chosen true x o e = refl
chosen false x o e = absurd cc

passed : (b : Bool) (x : Fraction) (o : Option Fraction) → b ≡ false → unwrap_or (if b then Some x else o) zero_value ≡ unwrap_or o zero_value
passed true x o e = absurd cc
passed false x o e = refl

differ : (m n : ℕ) → m ≢ n → (m == n) ≡ false
differ m n h = grind (arith, nat_tests)

own_coefficient : (t : Term) (terms : List Term) (place : ℕ) → t.var ≡ place → coefficient (t ∷ terms) place ≡ t.coef
own_coefficient t terms place e = chosen (t.var == place) t.coef _ (eq-eqb t.var place e)

other_coefficient : (t : Term) (terms : List Term) (place : ℕ) → t.var ≢ place → coefficient (t ∷ terms) place ≡ coefficient terms place
other_coefficient t terms place e = passed (t.var == place) t.coef _ (differ t.var place e)

-- a variable that is below those of all terms
no_coefficient : (terms : List Term) (place : ℕ) → Each (λ s. place < s.var) terms → coefficient terms place ≡ zero_value
no_coefficient [] place h = refl
no_coefficient (t ∷ terms) place h =
    other_coefficient t terms place (λ e. absurd (omega (arith, h.0, e))) ∙ no_coefficient terms place h.1

-- the sum over variables from a place on, of a row's coefficients times their values
abbrev pub places_sum : List Term → ℕ → List Fraction → Fraction
places_sum terms first xs = columns_sum (map (coefficient terms) (numbers_from first (length xs))) xs

past : (t : Term) (terms : List Term) (first : ℕ) (xs : List Fraction) → t.var < first → places_sum (t ∷ terms) first xs ≡ places_sum terms first xs
past t terms first [] below = refl
past t terms first (x ∷ xs) below =
    ap₂ (λ c s. c ⊗ x ⊕ s) (other_coefficient t terms first (λ e. absurd (omega (arith, below, e)))) (past t terms (suc first) xs (omega (arith, below)))

-- one term more
one_term : (t : Term) (terms : List Term) (first k : ℕ) (xs : List Fraction) → Each (λ s. t.var < s.var) terms → t.var ≡ first + k
    → places_sum (t ∷ terms) first xs ≡ t.coef ⊗ value_at xs k ⊕ places_sum terms first xs
one_term t terms first k [] above at =
    sym (ap (λ s. s ⊕ zero_value) (exact_product-zero_right t.coef) ∙ exact_sum-zero_left zero_value apart_of-zero)
one_term t terms first zero (x ∷ xs) above at =
    let same : t.var ≡ first = omega (arith, at) in
    let none : coefficient terms first ≡ zero_value = ap (coefficient terms) (sym same) ∙ no_coefficient terms t.var above in
    ap₂ (λ c s. c ⊗ x ⊕ s) (own_coefficient t terms first same)
    (past t terms (suc first) xs (omega (arith, same))
    ∙ sym (ap (λ c. c ⊗ x ⊕ places_sum terms (suc first) xs) none ∙ ap (λ s. s ⊕ places_sum terms (suc first) xs) (exact_product-zero_left x)
    ∙ exact_sum-zero_left (places_sum terms (suc first) xs) (columns_sum_low (map (coefficient terms) (numbers_from (suc first) (length xs))) xs)))
one_term t terms first (suc k) (x ∷ xs) above at =
    ap₂ (λ c s. c ⊗ x ⊕ s) (other_coefficient t terms first (λ e. absurd (omega (arith, at, e)))) (one_term t terms (suc first) k xs above (omega (arith, at)))
    ∙ sum_left_comm (coefficient terms first ⊗ x) (t.coef ⊗ value_at xs k) (places_sum terms (suc first) xs)

no_terms : (first : ℕ) (xs : List Fraction) → places_sum [] first xs ≡ zero_value
no_terms first [] = refl
no_terms first (x ∷ xs) =
    ap₂ (λ s t. s ⊕ t) (exact_product-zero_left x) (no_terms (suc first) xs) ∙ exact_sum-zero_left zero_value apart_of-zero

-- Where no variable stands twice, the sum over terms is the one over variables.
pub terms_by_place : (terms : List Term) (xs : List Fraction) → AllPairs (λ s t. s.var < t.var) terms → terms_sum terms xs ≡ places_sum terms 0 xs
terms_by_place [] xs rising = sym (no_terms 0 xs)
terms_by_place (t ∷ terms) xs rising =
    ap (λ s. t.coef ⊗ value_at xs t.var ⊕ s) (terms_by_place terms xs (pairs_tail (λ s t. s.var < t.var) t terms rising))
    ∙ sym (one_term t terms 0 t.var xs (pairs_head (λ s t. s.var < t.var) t terms rising) (omega arith))
