-- Values of the variables as values of the columns, without what stands beside them; and the values at which free variables
-- are 0 by columns that are not.
use Rattle.std.proofs.Common.{◌≡◌, ◌∙◌, refl, sym, ap, ap₂, subst, subst₂, suc, List, [], ◌∷◌, length, All, arith}
use Rattle.std.proofs.lemmas.List.Sums.{sum_by-cons}
use Rattle.std.proofs.lemmas.List.Elements.{All-cons, All-head, All-nil, All-tail}
use Rattle.std.proofs.lemmas.Int.{ints}
use Rattle.frac128.specs.Fraction.{Fraction, negation, one_value, zero_value}
use Rattle.frac128.specs.Order.{IsAtMost}
use Rattle.frac128.specs.Lowest.{IsInLowestTerms}
use Rattle.frac128.proofs.Field.{apart_of-product, apart_of-sum, apart_of-zero, exact_product-negation_left, exact_product-negation_right, exact_product-one_right, exact_product-zero_left, exact_product-zero_right, exact_sum-negation, exact_sum-zero_left, exact_sum-zero_right, exact_sum_assoc, exact_sum_comm, negation-negation}
use Rattle.frac128.proofs.Ordered.{IsAtMost-product, IsAtMost-self, IsAtMost-sums, IsAtMost_antisymm}
use Rattle.frac128.proofs.Sums.{no_zeros, ◌⊕◌, ◌⊗◌}
use Rattle.solve_defs.specs.Columns.{columns_sum}
use Rattle.solve_defs.specs.StandardForm.{Shape, column_count, entries, free, mirrored, shifted, width}
use Rattle.solve_defs.proofs.FormSums.{columns_sum_low}
use Rattle.solve_defs.proofs.FormBounds.{low_negation}

abbrev pub lift : List Shape → List Fraction → List Fraction
lift [] xs = []
lift (shape ∷ shapes) [] = []
lift (shifted l u ∷ shapes) (x ∷ xs) = x ∷ lift shapes xs
lift (mirrored u ∷ shapes) (x ∷ xs) = negation x ∷ lift shapes xs
lift (free ∷ shapes) (x ∷ xs) = x ∷ zero_value ∷ lift shapes xs

pub length-lift : (shapes : List Shape) (xs : List Fraction) → length xs ≡ length shapes → length (lift shapes xs) ≡ column_count shapes
length-lift [] xs same = refl
length-lift (shape ∷ shapes) [] same = absurd (omega (arith, same))
length-lift (shifted l u ∷ shapes) (x ∷ xs) same = ap suc (length-lift shapes xs (omega (arith, same))) ∙ omega arith ∙ sym (sum_by-cons width (shifted l u) shapes)
length-lift (mirrored u ∷ shapes) (x ∷ xs) same = ap suc (length-lift shapes xs (omega (arith, same))) ∙ omega arith ∙ sym (sum_by-cons width (mirrored u) shapes)
length-lift (free ∷ shapes) (x ∷ xs) same = ap (λ n. suc (suc n)) (length-lift shapes xs (omega (arith, same))) ∙ omega arith ∙ sym (sum_by-cons width free shapes)

pub lift_low : (shapes : List Shape) (xs : List Fraction) → All IsInLowestTerms xs → All IsInLowestTerms (lift shapes xs)
lift_low [] xs low = All-nil IsInLowestTerms
lift_low (shape ∷ shapes) [] low = All-nil IsInLowestTerms
lift_low (shifted l u ∷ shapes) (x ∷ xs) low = All-cons IsInLowestTerms x (lift shapes xs) (All-head IsInLowestTerms x xs low) (lift_low shapes xs (All-tail IsInLowestTerms x xs low))
lift_low (mirrored u ∷ shapes) (x ∷ xs) low =
    All-cons IsInLowestTerms (negation x) (lift shapes xs) (low_negation x (All-head IsInLowestTerms x xs low)) (lift_low shapes xs (All-tail IsInLowestTerms x xs low))
lift_low (free ∷ shapes) (x ∷ xs) low =
    All-cons IsInLowestTerms x (zero_value ∷ lift shapes xs) (All-head IsInLowestTerms x xs low)
    (All-cons IsInLowestTerms zero_value (lift shapes xs) apart_of-zero (lift_low shapes xs (All-tail IsInLowestTerms x xs low)))

twice_negated : (c x : Fraction) → negation c ⊗ negation x ≡ c ⊗ x
twice_negated c x = exact_product-negation_left c (negation x) ∙ ap negation (exact_product-negation_right c x) ∙ negation-negation (c ⊗ x)

-- coefficients of the columns at such values
pub entries_lift : (shapes : List Shape) (cs xs : List Fraction) → length cs ≡ length shapes → length xs ≡ length shapes → columns_sum (entries shapes cs) (lift shapes xs) ≡ columns_sum cs xs
entries_lift [] [] xs same also = refl
entries_lift [] (c ∷ cs) xs same also = absurd (omega (arith, same))
entries_lift (shape ∷ shapes) [] xs same also = absurd (omega (arith, same))
entries_lift (shape ∷ shapes) (c ∷ cs) [] same also = absurd (omega (arith, also))
entries_lift (shifted l u ∷ shapes) (c ∷ cs) (x ∷ xs) same also = ap (λ t. c ⊗ x ⊕ t) (entries_lift shapes cs xs (omega (arith, same)) (omega (arith, also)))
entries_lift (mirrored u ∷ shapes) (c ∷ cs) (x ∷ xs) same also = ap₂ (λ p q. p ⊕ q) (twice_negated c x) (entries_lift shapes cs xs (omega (arith, same)) (omega (arith, also)))
entries_lift (free ∷ shapes) (c ∷ cs) (x ∷ xs) same also =
    ap₂ (λ p q. c ⊗ x ⊕ (p ⊕ q)) (exact_product-zero_right (negation c)) (entries_lift shapes cs xs (omega (arith, same)) (omega (arith, also)))
    ∙ ap (λ t. c ⊗ x ⊕ t) (exact_sum-zero_left (columns_sum cs xs) (columns_sum_low cs xs))

-- ---- free variables

-- both columns of each free variable at 1
abbrev pub both_at_one : List Shape → List Fraction
both_at_one [] = []
both_at_one (shifted l u ∷ shapes) = zero_value ∷ both_at_one shapes
both_at_one (mirrored u ∷ shapes) = zero_value ∷ both_at_one shapes
both_at_one (free ∷ shapes) = one_value ∷ one_value ∷ both_at_one shapes

pub length-both : (shapes : List Shape) → length (both_at_one shapes) ≡ column_count shapes
length-both [] = refl
length-both (shifted l u ∷ shapes) = ap suc (length-both shapes) ∙ omega arith ∙ sym (sum_by-cons width (shifted l u) shapes)
length-both (mirrored u ∷ shapes) = ap suc (length-both shapes) ∙ omega arith ∙ sym (sum_by-cons width (mirrored u) shapes)
length-both (free ∷ shapes) = ap (λ n. suc (suc n)) (length-both shapes) ∙ omega arith ∙ sym (sum_by-cons width free shapes)

pub entries_both : (shapes : List Shape) (cs : List Fraction) → columns_sum (entries shapes cs) (both_at_one shapes) ≡ zero_value
entries_both [] cs = refl
entries_both (shifted l u ∷ shapes) [] = refl
entries_both (mirrored u ∷ shapes) [] = refl
entries_both (free ∷ shapes) [] = refl
entries_both (shifted l u ∷ shapes) (c ∷ cs) = ap₂ (λ p q. p ⊕ q) (exact_product-zero_right c) (entries_both shapes cs) ∙ sym no_zeros
entries_both (mirrored u ∷ shapes) (c ∷ cs) = ap₂ (λ p q. p ⊕ q) (exact_product-zero_right (negation c)) (entries_both shapes cs) ∙ sym no_zeros
entries_both (free ∷ shapes) (c ∷ cs) =
    ap₂ (λ p q. c ⊗ one_value ⊕ (p ⊕ q)) (exact_product-negation_left c one_value) (entries_both shapes cs)
    ∙ sym (exact_sum_assoc (c ⊗ one_value) (negation (c ⊗ one_value)) zero_value) ∙ ap (λ t. t ⊕ zero_value) (exact_sum-negation (c ⊗ one_value)) ∙ sym no_zeros

-- a free variable's first column has no weight, and each weight is in lowest terms
abbrev pub NoneFree : List Shape → List Fraction → Type 0
NoneFree [] rs = Unit {0}
NoneFree (shape ∷ shapes) [] = Unit {0}
NoneFree (shifted l u ∷ shapes) (r ∷ rs) = NoneFree shapes rs
NoneFree (mirrored u ∷ shapes) (r ∷ rs) = NoneFree shapes rs
NoneFree (free ∷ shapes) (r ∷ []) = Unit {0}
NoneFree (free ∷ shapes) (r ∷ q ∷ rs) = (r ≡ zero_value) × NoneFree shapes rs

above_sum : {x y : Fraction} → IsAtMost zero_value x → IsAtMost zero_value y → IsAtMost zero_value (x ⊕ y)
above_sum {x = x} {y = y} p q = subst (λ s. IsAtMost s (x ⊕ y)) (sym no_zeros) (IsAtMost-sums zero_value x zero_value y p q)

times_one : (r : Fraction) → IsAtMost zero_value r → IsAtMost zero_value (r ⊗ one_value)
times_one r high =
    subst (λ s. IsAtMost s (r ⊗ one_value)) (exact_product-zero_left one_value) (IsAtMost-product zero_value r one_value one_high high)
  where
    one_high : IsAtMost zero_value one_value
    one_high = record { at_most = omega (arith, ints) }

-- two that are at least 0 and come to 0
none_first : (x y : Fraction) → IsInLowestTerms x → IsAtMost zero_value x → IsAtMost zero_value y → x ⊕ y ≡ zero_value → x ≡ zero_value
none_first x y low high also none =
    IsAtMost_antisymm x zero_value low apart_of-zero
    (subst₂ IsAtMost (exact_sum-zero_right x low) none (IsAtMost-sums x x zero_value y (IsAtMost-self x) also)) high

none_second : (x y : Fraction) → IsInLowestTerms y → IsAtMost zero_value x → IsAtMost zero_value y → x ⊕ y ≡ zero_value → y ≡ zero_value
none_second x y low high also none = none_first y x low also high (exact_sum_comm y x ∙ none)

-- a sum of what is at least 0
pub at_least_sum : (shapes : List Shape) (rs : List Fraction) → All (IsAtMost zero_value) rs → IsAtMost zero_value (columns_sum rs (both_at_one shapes))
at_least_sum [] [] high = IsAtMost-self zero_value
at_least_sum [] (r ∷ rs) high = IsAtMost-self zero_value
at_least_sum (shifted l u ∷ shapes) [] high = IsAtMost-self zero_value
at_least_sum (mirrored u ∷ shapes) [] high = IsAtMost-self zero_value
at_least_sum (free ∷ shapes) [] high = IsAtMost-self zero_value
at_least_sum (shifted l u ∷ shapes) (r ∷ rs) high =
    subst (IsAtMost zero_value) (sym (ap (λ t. t ⊕ columns_sum rs (both_at_one shapes)) (exact_product-zero_right r) ∙ exact_sum-zero_left (columns_sum rs (both_at_one shapes)) (columns_sum_low rs (both_at_one shapes))))
    (at_least_sum shapes rs (All-tail (IsAtMost zero_value) r rs high))
at_least_sum (mirrored u ∷ shapes) (r ∷ rs) high =
    subst (IsAtMost zero_value) (sym (ap (λ t. t ⊕ columns_sum rs (both_at_one shapes)) (exact_product-zero_right r) ∙ exact_sum-zero_left (columns_sum rs (both_at_one shapes)) (columns_sum_low rs (both_at_one shapes))))
    (at_least_sum shapes rs (All-tail (IsAtMost zero_value) r rs high))
at_least_sum (free ∷ shapes) (r ∷ []) high = above_sum (times_one r (All-head (IsAtMost zero_value) r [] high)) (IsAtMost-self zero_value)
at_least_sum (free ∷ shapes) (r ∷ q ∷ rs) high =
    above_sum (times_one r (All-head (IsAtMost zero_value) r (q ∷ rs) high))
    (above_sum (times_one q (All-head (IsAtMost zero_value) q rs (All-tail (IsAtMost zero_value) r (q ∷ rs) high))) (at_least_sum shapes rs (All-tail (IsAtMost zero_value) q rs (All-tail (IsAtMost zero_value) r (q ∷ rs) high))))

pub none_free : (shapes : List Shape) (rs : List Fraction) → All IsInLowestTerms rs → All (IsAtMost zero_value) rs → columns_sum rs (both_at_one shapes) ≡ zero_value → NoneFree shapes rs
none_free [] rs low high none = tt
none_free (shape ∷ shapes) [] low high none = tt
none_free (shifted l u ∷ shapes) (r ∷ rs) low high none =
    none_free shapes rs (All-tail IsInLowestTerms r rs low) (All-tail (IsAtMost zero_value) r rs high)
    (sym (ap (λ t. t ⊕ columns_sum rs (both_at_one shapes)) (exact_product-zero_right r) ∙ exact_sum-zero_left (columns_sum rs (both_at_one shapes)) (columns_sum_low rs (both_at_one shapes))) ∙ none)
none_free (mirrored u ∷ shapes) (r ∷ rs) low high none =
    none_free shapes rs (All-tail IsInLowestTerms r rs low) (All-tail (IsAtMost zero_value) r rs high)
    (sym (ap (λ t. t ⊕ columns_sum rs (both_at_one shapes)) (exact_product-zero_right r) ∙ exact_sum-zero_left (columns_sum rs (both_at_one shapes)) (columns_sum_low rs (both_at_one shapes))) ∙ none)
none_free (free ∷ shapes) (r ∷ []) low high none = tt
none_free (free ∷ shapes) (r ∷ q ∷ rs) low high none =
    let low_r = All-head IsInLowestTerms r (q ∷ rs) low in
    let high_r = All-head (IsAtMost zero_value) r (q ∷ rs) high in
    let low_q = All-tail IsInLowestTerms r (q ∷ rs) low in
    let high_q = All-tail (IsAtMost zero_value) r (q ∷ rs) high in
    let rest = columns_sum rs (both_at_one shapes) in
    let later = at_least_sum shapes rs (All-tail (IsAtMost zero_value) q rs high_q) in
    let second = q ⊗ one_value ⊕ rest in
    let second_high = above_sum (times_one q (All-head (IsAtMost zero_value) q rs high_q)) later in
    let first_none = none_first (r ⊗ one_value) second (apart_of-product r one_value) (times_one r high_r) second_high none in
    let second_none = none_second (r ⊗ one_value) second (apart_of-sum (q ⊗ one_value) rest) (times_one r high_r) second_high none in (
      sym (exact_product-one_right r low_r) ∙ first_none,
      none_free shapes rs (All-tail IsInLowestTerms q rs low_q) (All-tail (IsAtMost zero_value) q rs high_q)
          (none_second (q ⊗ one_value) rest (columns_sum_low rs (both_at_one shapes)) (times_one q (All-head (IsAtMost zero_value) q rs high_q)) later second_none),
    )
