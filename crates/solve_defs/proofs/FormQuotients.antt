-- Quotients of whole numbers and the fractions in lowest terms that have their values.
use Rattle.std.proofs.Common.{◌≡◌, refl, sym, ◌∙◌, ap, ap₂, subst, ℕ, zero, suc, ◌*◌, ◌<◌, ℤ, pos, ◌+ℤ◌, ◌*ℤ◌, arith}
use Rattle.std.specs.Prelude.{◌≤ℤ◌}
use Rattle.std.proofs.Math.Nat.{mul-one, mul-pos}
use Rattle.std.proofs.lemmas.Int.{ints}
use Rattle.frac128.specs.Fraction.{Fraction, den, exact_product, exact_sum, lowest, zero_value}
use Rattle.frac128.specs.Order.{IsAtMost}
use Rattle.frac128.proofs.Field.{apart_of-product, apart_of-sum, exact_product-sum, exact_product-zero_left, exact_product_comm, exact_sum-zero_left, exact_sum_assoc, exact_sum_comm, lowest-cross, lowest-self}
use Rattle.frac128.proofs.Integers.{add-mul, mul-mul_pos}
use Rattle.frac128.proofs.Ordered.{IsAtMost_trans}
use Rattle.frac128.proofs.Seen.{lowest-same}
use Rattle.frac128.specs.Lowest.{IsInLowestTerms}
use Rattle.solve_defs.specs.Points.{AtMost, Ratio, SameValue, over, plus, quotient, ratio, times}
use Rattle.frac128.proofs.Sums.{◌⊕◌, ◌⊗◌}

-- ---- lowest terms by adding 0

-- n over one more than k, as it stands
abbrev pub raw : ℤ → ℕ → Fraction
raw n k = record { num = n; below = k }

sum-zero_is : (x : Fraction) → x ⊕ zero_value ≡ lowest x.num (den x)
unfolding exact_sum
sum-zero_is x = ap₂ lowest (ends x.num (den x)) (mul-one (den x))
  where
    ends : (a : ℤ) (b : ℕ) → a *ℤ pos 1 +ℤ pos 0 *ℤ pos b ≡ a
    ends a b = omega (arith, ints)

pub lowest-raw : (x : Fraction) → lowest x.num (den x) ≡ zero_value ⊕ x
lowest-raw x = sym (exact_sum_comm zero_value x ∙ sum-zero_is x)

pub zero-sum : (x y : Fraction) → (zero_value ⊕ x) ⊕ y ≡ x ⊕ y
zero-sum x y = exact_sum_assoc zero_value x y ∙ exact_sum-zero_left (x ⊕ y) (apart_of-sum x y)

pub zero-product : (x y : Fraction) → (zero_value ⊕ x) ⊗ y ≡ x ⊗ y
zero-product x y =
    exact_product-sum zero_value x y ∙ ap (λ s. s ⊕ x ⊗ y) (exact_product-zero_left y) ∙ exact_sum-zero_left (x ⊗ y) (apart_of-product x y)

-- ---- sums and products of quotients

raw-sum : (n c : ℤ) (d e : ℕ) → raw n d ⊕ raw c e ≡ lowest (n *ℤ pos (suc e) +ℤ c *ℤ pos (suc d)) (suc d * suc e)
unfolding exact_sum
raw-sum n c d e = refl

raw-times : (a : Fraction) (n : ℤ) (d : ℕ) → a ⊗ raw n d ≡ lowest (a.num *ℤ n) (den a * suc d)
unfolding exact_product
raw-times a n d = refl

pub lowest-sum : (n c : ℤ) (d e : ℕ) → 0 < d → 0 < e → lowest n d ⊕ lowest c e ≡ lowest (n *ℤ pos e +ℤ c *ℤ pos d) (d * e)
lowest-sum n c zero e p q = absurd (omega (arith, p))
lowest-sum n c (suc d) zero p q = absurd (omega (arith, q))
lowest-sum n c (suc d) (suc e) p q =
    ap₂ (λ x y. x ⊕ y) (lowest-raw (raw n d)) (lowest-raw (raw c e)) ∙ zero-sum (raw n d) (zero_value ⊕ raw c e)
    ∙ exact_sum_comm (raw n d) (zero_value ⊕ raw c e) ∙ zero-sum (raw c e) (raw n d) ∙ exact_sum_comm (raw c e) (raw n d) ∙ raw-sum n c d e

pub lowest-times : (a : Fraction) (n : ℤ) (d : ℕ) → 0 < d → lowest (a.num *ℤ n) (den a * d) ≡ a ⊗ lowest n d
lowest-times a n zero p = absurd (omega (arith, p))
lowest-times a n (suc d) p =
    sym (ap (λ y. a ⊗ y) (lowest-raw (raw n d)) ∙ exact_product_comm a (zero_value ⊕ raw n d) ∙ zero-product (raw n d) a
    ∙ exact_product_comm (raw n d) a ∙ raw-times a n d)

-- the value of a quotient
abbrev pub value : Ratio → Fraction
value r = lowest r.num r.den

pub value-plus : (x y : Ratio) → 0 < x.den → 0 < y.den → value (plus x y) ≡ value x ⊕ value y
value-plus x y p q = sym (lowest-sum x.num y.num x.den y.den p q)

-- a sum over d is the sum of its parts over d
pub value-over_plus : (x y : Ratio) (d : ℕ) → 0 < x.den → 0 < y.den → 0 < d → value (over d (plus x y)) ≡ value (over d x) ⊕ value (over d y)
value-over_plus x y d p q r =
    lowest-same _ _ _ _ (mul-pos (mul-pos p q) r) (mul-pos (mul-pos p r) (mul-pos q r)) (cross x.num y.num x.den y.den)
    ∙ sym (lowest-sum x.num y.num (x.den * d) (y.den * d) (mul-pos p r) (mul-pos q r))
  where
    shuffle : (i j : ℕ) → i * d * (j * d) ≡ d * (i * j * d)
    shuffle i j = omega arith

    factored : (n c : ℤ) (i j : ℕ) → n *ℤ pos (j * d) +ℤ c *ℤ pos (i * d) ≡ (n *ℤ pos j +ℤ c *ℤ pos i) *ℤ pos d
    factored n c i j = sym (add-mul (n *ℤ pos j) (c *ℤ pos i) (pos d) ∙ ap₂ (λ s t. s +ℤ t) (mul-mul_pos n j d) (mul-mul_pos c i d))

    cross : (n c : ℤ) (i j : ℕ) → (n *ℤ pos j +ℤ c *ℤ pos i) *ℤ pos (i * d * (j * d)) ≡ (n *ℤ pos (j * d) +ℤ c *ℤ pos (i * d)) *ℤ pos (i * j * d)
    cross n c i j =
        let s = n *ℤ pos j +ℤ c *ℤ pos i in
        ap (λ k. s *ℤ pos k) (shuffle i j) ∙ sym (mul-mul_pos s d (i * j * d)) ∙ ap (λ t. t *ℤ pos (i * j * d)) (sym (factored n c i j))

-- one summand more, over d
pub value-step : (a : Fraction) (n : ℤ) (w : Ratio) (d : ℕ) → 0 < w.den → 0 < d
    → value (over d (plus (times a n) w)) ≡ a ⊗ lowest n d ⊕ value (over d w)
value-step a n w d q r =
    value-over_plus (times a n) w d (omega arith) q r ∙ ap (λ s. s ⊕ value (over d w)) (lowest-times a n d r)

-- ---- equal values, and the order

pub same_value : (n : ℤ) (d : ℕ) (x : Fraction) → 0 < d → lowest n d ≡ x → SameValue (quotient n d) (ratio x)
same_value n d x p e = subst (λ (y : Fraction). SameValue (quotient n d) (ratio y)) e (sym (lowest-cross n d p))

pub from_same_value : (n : ℤ) (d : ℕ) (x : Fraction) → 0 < d → IsInLowestTerms x → SameValue (quotient n d) (ratio x) → lowest n d ≡ x
from_same_value n d x p low h = lowest-same n x.num d (den x) p (omega arith) h ∙ lowest-self x low

pub lowest_at_most : (x : Fraction) → IsAtMost (zero_value ⊕ x) x
lowest_at_most x = subst (λ y. IsAtMost y x) (lowest-raw x) (record { at_most = no_more _ _ (lowest-cross x.num (den x) (omega arith)) })
  where
    no_more : (a b : ℤ) → a ≡ b → a ≤ℤ b
    no_more a b e = omega (arith, ints, e)

pub at_most_lowest : (x : Fraction) → IsAtMost x (zero_value ⊕ x)
at_most_lowest x = subst (λ y. IsAtMost x y) (lowest-raw x) (record { at_most = no_more _ _ (sym (lowest-cross x.num (den x) (omega arith))) })
  where
    no_more : (a b : ℤ) → a ≡ b → a ≤ℤ b
    no_more a b e = omega (arith, ints, e)

pub value-at_most : (n : ℤ) (d : ℕ) (y : Fraction) → 0 < d → AtMost (quotient n d) (ratio y) → IsAtMost (lowest n d) y
value-at_most n zero y p h = absurd (omega (arith, p))
value-at_most n (suc d) y p h =
    subst (λ z. IsAtMost z y) (sym (lowest-raw (raw n d))) (IsAtMost_trans (zero_value ⊕ raw n d) (raw n d) y (lowest_at_most (raw n d)) (record { at_most = h }))

pub value-at_least : (n : ℤ) (d : ℕ) (y : Fraction) → 0 < d → AtMost (ratio y) (quotient n d) → IsAtMost y (lowest n d)
value-at_least n zero y p h = absurd (omega (arith, p))
value-at_least n (suc d) y p h =
    subst (λ z. IsAtMost y z) (sym (lowest-raw (raw n d))) (IsAtMost_trans y (raw n d) (zero_value ⊕ raw n d) (record { at_most = h }) (at_most_lowest (raw n d)))

pub at_most-value : (n : ℤ) (d : ℕ) (y : Fraction) → 0 < d → IsAtMost (lowest n d) y → AtMost (quotient n d) (ratio y)
at_most-value n zero y p h = absurd (omega (arith, p))
at_most-value n (suc d) y p h =
    let all = IsAtMost_trans (raw n d) (zero_value ⊕ raw n d) y (at_most_lowest (raw n d)) (subst (λ z. IsAtMost z y) (lowest-raw (raw n d)) h) in all.at_most

pub at_least-value : (n : ℤ) (d : ℕ) (y : Fraction) → 0 < d → IsAtMost y (lowest n d) → AtMost (ratio y) (quotient n d)
at_least-value n zero y p h = absurd (omega (arith, p))
at_least-value n (suc d) y p h =
    let all = IsAtMost_trans y (zero_value ⊕ raw n d) (raw n d) (subst (λ z. IsAtMost y z) (lowest-raw (raw n d)) h) (lowest_at_most (raw n d)) in all.at_most
