-- Sums over the places of variables: where one place alone counts, and the terms of a row by their places.
use Rattle.std.proofs.Common.{◌≡◌, refl, sym, ◌∙◌, ap, ap₂, subst, ⊎_elim, ℕ, zero, suc, ◌+◌, ◌<◌, ◌≤◌, ◌==◌, Bool, true, false, if◌then◌else◌, List, [], ◌∷◌, Some, None, All, AllPairs, unwrap_or, arith}
use Rattle.std.proofs.lemmas.Bool.{cases_lt, eq-eqb, eqb-true, ne_eqb}
use Rattle.std.proofs.lemmas.List.Elements.{All-head, All-tail}
use Rattle.frac128.specs.Fraction.{Fraction, exact_sum, zero_value}
use Rattle.frac128.proofs.Field.{apart_of-product, exact_product-zero_left, exact_sum-zero_left, exact_sum-zero_right}
use Rattle.model_data.specs.declared.model.Term.{Term}
use Rattle.solve_defs.specs.Values.{coefficient, term_of}
use Rattle.frac128.proofs.Sums.{◌⊕◌, ◌⊗◌, no_zeros, total, total-plus, total-same, total-zero}
use Rattle.frac128.specs.Lowest.{IsInLowestTerms}

-- so many places from this one on
abbrev pub places : ℕ → ℕ → List ℕ
places first zero = []
places first (suc n) = first ∷ places (suc first) n

pub none_before : (g : ℕ → Fraction) (v first n : ℕ) → ((j : ℕ) → (j ≡ v → ⊥) → g j ≡ zero_value) → v < first → total g (places first n) ≡ zero_value
none_before g v first zero apart before = refl
none_before g v first (suc n) apart before =
    ap₂ exact_sum (apart first (λ e. omega (arith, e, before))) (none_before g v (suc first) n apart (omega (arith, before))) ∙ sym no_zeros

-- One place alone counts.
pub only_place : (g : ℕ → Fraction) (v first n : ℕ) → ((j : ℕ) → (j ≡ v → ⊥) → g j ≡ zero_value) → IsInLowestTerms (g v) → first ≤ v → v < first + n → total g (places first n) ≡ g v
only_place g v first zero apart low from to = absurd (omega (arith, from, to))
only_place g v first (suc n) apart low from to =
    ⊎_elim
    (λ less. ap₂ exact_sum (apart first (λ e. omega (arith, e, less))) (only_place g v (suc first) n apart low (omega (arith, less)) (omega (arith, to))) ∙ exact_sum-zero_left (g v) low)
    (λ most. subst (λ k. g k ⊕ total g (places (suc k) n) ≡ g v) (same most) (ap (λ s. g v ⊕ s) (none_before g v (suc v) n apart (omega arith)) ∙ exact_sum-zero_right (g v) low))
    (cases_lt first v)
  where
    same : v ≤ first → v ≡ first
    same most = omega (arith, most, from)

-- ---- the terms of a row

absent : (terms : List Term) (j : ℕ) → All (λ t. j < t.var) terms → term_of terms j ≡ None
absent [] j above = refl
absent (t ∷ terms) j above =
    ap (λ b. if b then Some t.coef else term_of terms j) (ne_eqb t.var j (λ e. apart e (All-head (λ s. j < s.var) t terms above)))
    ∙ absent terms j (All-tail (λ s. j < s.var) t terms above)
  where
    apart : t.var ≡ j → j < t.var → ⊥
    apart e less = omega (arith, e, less)

-- what a term has at a place
own : Term → ℕ → Fraction
own t j = if t.var == j then t.coef else zero_value

own_apart : (t : Term) (j : ℕ) → (j ≡ t.var → ⊥) → own t j ≡ zero_value
unfolding own
own_apart t j apart = ap (λ b. if b then t.coef else zero_value) (ne_eqb t.var j (λ e. apart (sym e)))

own_here : (t : Term) → own t t.var ≡ t.coef
unfolding own
own_here t = ap (λ b. if b then t.coef else zero_value) (eq-eqb t.var t.var refl)

-- a term and those behind it, which have nothing at its place
parted : (t : Term) (terms : List Term) (j : ℕ) (y : Fraction) → All (λ s. t.var < s.var) terms → coefficient (t ∷ terms) j ⊗ y ≡ own t j ⊗ y ⊕ coefficient terms j ⊗ y
unfolding own
parted t terms j y above = by_test (t.var == j) (λ e. absent terms j (subst (λ k. All (λ s. k < s.var) terms) (eqb-true t.var j e) above))
  where
    by_test : (b : Bool) → (b ≡ true → term_of terms j ≡ None)
        → unwrap_or (if b then Some t.coef else term_of terms j) zero_value ⊗ y ≡ (if b then t.coef else zero_value) ⊗ y ⊕ unwrap_or (term_of terms j) zero_value ⊗ y
    by_test true none =
        sym (ap (λ o. t.coef ⊗ y ⊕ unwrap_or o zero_value ⊗ y) (none refl) ∙ ap (λ s. t.coef ⊗ y ⊕ s) (exact_product-zero_left y)
        ∙ exact_sum-zero_right (t.coef ⊗ y) (apart_of-product t.coef y))
    by_test false none =
        sym (ap (λ s. s ⊕ unwrap_or (term_of terms j) zero_value ⊗ y) (exact_product-zero_left y)
        ∙ exact_sum-zero_left (unwrap_or (term_of terms j) zero_value ⊗ y) (apart_of-product (unwrap_or (term_of terms j) zero_value) y))

pub AllPairs-first : {X : Type 0} (R : X → X → Type 0) (x : X) (xs : List X) → AllPairs R (x ∷ xs) → All (R x) xs
AllPairs-first R x xs pairs k d within = pairs 0 (suc k) d (omega arith) (omega (arith, within))

pub AllPairs-rest : {X : Type 0} (R : X → X → Type 0) (x : X) (xs : List X) → AllPairs R (x ∷ xs) → AllPairs R xs
AllPairs-rest R x xs pairs i j d less within = pairs (suc i) (suc j) d (omega (arith, less)) (omega (arith, within))

-- A row's terms come to the same by their places.
pub row_by_places : (x : ℕ → Fraction) (terms : List Term) (n : ℕ) → AllPairs (λ s t. s.var < t.var) terms → All (λ t. t.var < n) terms
    → total (λ j. coefficient terms j ⊗ x j) (places 0 n) ≡ total (λ t. t.coef ⊗ x t.var) terms
row_by_places x [] n rising within =
    total-same (λ j. coefficient [] j ⊗ x j) (λ j. zero_value) (places 0 n) (λ j. exact_product-zero_left (x j)) ∙ total-zero (places 0 n)
row_by_places x (t ∷ terms) n rising within =
    total-same (λ j. coefficient (t ∷ terms) j ⊗ x j) (λ j. own t j ⊗ x j ⊕ coefficient terms j ⊗ x j) (places 0 n)
    (λ j. parted t terms j (x j) (AllPairs-first (λ s r. s.var < r.var) t terms rising))
    ∙ total-plus (λ j. own t j ⊗ x j) (λ j. coefficient terms j ⊗ x j) (places 0 n)
    ∙ ap₂ exact_sum
    (only_place (λ j. own t j ⊗ x j) t.var 0 n (λ j apart. ap (λ s. s ⊗ x j) (own_apart t j apart) ∙ exact_product-zero_left (x j))
    (apart_of-product (own t t.var) (x t.var)) (omega arith) (behind (All-head (λ s. s.var < n) t terms within))
    ∙ ap (λ s. s ⊗ x t.var) (own_here t))
    (row_by_places x terms n (AllPairs-rest (λ s r. s.var < r.var) t terms rising) (All-tail (λ s. s.var < n) t terms within))
  where
    behind : t.var < n → t.var < 0 + n
    behind less = omega (arith, less)
