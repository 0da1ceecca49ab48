-- Quotients of whole numbers in lowest terms: their sums, products and order, and what a point's values come to in them.
use Rattle.std.proofs.Common.{◌≡◌, refl, sym, ◌∙◌, ap, ap₂, ℕ, ◌*◌, ◌<◌, ℤ, pos, ◌+ℤ◌, ◌*ℤ◌, IsTrue, List, [], ◌∷◌, map, zip, Ordering, Less, Equal, Greater, is_le, is_lt, is_eq, arith}
use Rattle.std.specs.Prelude.{slice_index_or}
use Rattle.std.specs.Cmp.{int_cmp_is}
use Rattle.std.specs.Ordering.{MatchOrdering}
use Rattle.std.proofs.Math.Nat.{mul-pos, mul_comm}
use Rattle.std.proofs.lemmas.Int.{ints}
use Rattle.frac128.specs.Fraction.{Fraction, den, exact_product, exact_sum, lowest, zero_value}
use Rattle.frac128.specs.Order.{IsAtMost, IsBelow, order_of}
use Rattle.frac128.proofs.Field.{apart_of-sum, apart_of-zero, exact_sum-zero_right, exact_sum_assoc, lowest-cross, lowest-self}
use Rattle.frac128.proofs.Integers.{add-mul, le_of_lt_not, mul-mul_comm, mul-mul_pos}
use Rattle.frac128.proofs.Ordered.{IsAtMost-from_below, IsAtMost-lowest, IsBelow-lowest, IsBelow-not, order_of-tells}
use Rattle.frac128.proofs.Seen.{lowest-same}
use Rattle.model_data.specs.declared.model.Model.{Model}
use Rattle.model_data.specs.declared.model.Row.{Row}
use Rattle.solve_defs.specs.Points.{AtMost, Ratio, objective_value, over, plus, ratio, row_value, times, weighted_sum}
use Rattle.solve_defs.specs.Values.{is_at_most, is_below, is_same}
use Rattle.frac128.proofs.Sums.{◌⊕◌, ◌⊗◌, total, total-map}

-- ---- sums and products in lowest terms

moved : (a : ℤ) (i j k : ℕ) → a *ℤ pos i *ℤ pos (j * k) ≡ a *ℤ pos j *ℤ pos (i * k)
moved a i j k = mul-mul_comm a (pos i) (pos j) (pos k)

turned_round : (a : ℤ) (i j k : ℕ) → a *ℤ pos i *ℤ pos (j * k) ≡ a *ℤ pos k *ℤ pos (i * j)
turned_round a i j k = mul-mul_pos a i (j * k) ∙ ap (λ p. a *ℤ pos p) (shuffle i j k) ∙ sym (mul-mul_pos a k (i * j))
  where
    shuffle : (p q r : ℕ) → p * (q * r) ≡ r * (p * q)
    shuffle p q r = omega arith

-- one operand's part of a sum's cross products
one_part : (a n : ℤ) (i j d e : ℕ) → a *ℤ pos d ≡ n *ℤ pos i → a *ℤ pos j *ℤ pos (d * e) ≡ n *ℤ pos e *ℤ pos (i * j)
one_part a n i j d e same = moved a j d e ∙ ap (λ z. z *ℤ pos (j * e)) same ∙ turned_round n i j e

pub sum_of_lowest : (n m : ℤ) (d e : ℕ) → 0 < d → 0 < e → lowest n d ⊕ lowest m e ≡ lowest (n *ℤ pos e +ℤ m *ℤ pos d) (d * e)
unfolding exact_sum
sum_of_lowest n m d e d_some e_some =
    let x = lowest n d in
    let y = lowest m e in
    lowest-same (x.num *ℤ pos (den y) +ℤ y.num *ℤ pos (den x)) (n *ℤ pos e +ℤ m *ℤ pos d) (den x * den y) (d * e)
    (mul-pos (omega arith) (omega arith)) (mul-pos d_some e_some)
    (add-mul (x.num *ℤ pos (den y)) (y.num *ℤ pos (den x)) (pos (d * e))
    ∙ ap₂ (λ p q. p +ℤ q)
    (one_part x.num n (den x) (den y) d e (lowest-cross n d d_some))
    (ap (λ k. y.num *ℤ pos (den x) *ℤ pos k) (mul_comm d e) ∙ one_part y.num m (den y) (den x) e d (lowest-cross m e e_some) ∙ ap (λ k. m *ℤ pos d *ℤ pos k) (mul_comm (den y) (den x)))
    ∙ sym (add-mul (n *ℤ pos e) (m *ℤ pos d) (pos (den x * den y))))

pub product_of_lowest : (x : Fraction) (n : ℤ) (d : ℕ) → 0 < d → x ⊗ lowest n d ≡ lowest (x.num *ℤ n) (den x * d)
unfolding exact_product
product_of_lowest x n d some =
    let y = lowest n d in
    lowest-same (x.num *ℤ y.num) (x.num *ℤ n) (den x * den y) (den x * d) (mul-pos (omega arith) (omega arith)) (mul-pos (omega arith) some)
    (mul-mul_comm x.num y.num (pos (den x)) (pos d) ∙ ap (λ z. x.num *ℤ pos (den x) *ℤ z) (lowest-cross n d some)
    ∙ sym (mul-mul_comm x.num n (pos (den x)) (pos (den y))))

-- in lowest terms
abbrev pub low : Ratio → Fraction
low r = lowest r.num r.den

pub low-plus : (a b : Ratio) → 0 < a.den → 0 < b.den → low (plus a b) ≡ low a ⊕ low b
low-plus a b a_some b_some = sym (sum_of_lowest a.num b.num a.den b.den a_some b_some)

spread : (a b : ℤ) (i j k : ℕ) → (a *ℤ pos i +ℤ b *ℤ pos j) *ℤ pos k ≡ a *ℤ pos (i * k) +ℤ b *ℤ pos (j * k)
spread a b i j k = add-mul (a *ℤ pos i) (b *ℤ pos j) (pos k) ∙ ap₂ (λ p q. p +ℤ q) (mul-mul_pos a i k) (mul-mul_pos b j k)

pub low-over_plus : (a b : Ratio) (d : ℕ) → 0 < a.den → 0 < b.den → 0 < d → low (over d (plus a b)) ≡ low (over d a) ⊕ low (over d b)
low-over_plus a b d a_some b_some some =
    lowest-same (a.num *ℤ pos b.den +ℤ b.num *ℤ pos a.den) (a.num *ℤ pos (b.den * d) +ℤ b.num *ℤ pos (a.den * d)) (a.den * b.den * d) (a.den * d * (b.den * d))
    (mul-pos (mul-pos a_some b_some) some) (mul-pos (mul-pos a_some some) (mul-pos b_some some))
    (spread a.num b.num b.den a.den (a.den * d * (b.den * d))
    ∙ ap₂ (λ i j. a.num *ℤ pos i +ℤ b.num *ℤ pos j) (left a.den b.den d) (right a.den b.den d)
    ∙ sym (spread a.num b.num (b.den * d) (a.den * d) (a.den * b.den * d)))
    ∙ sym (sum_of_lowest a.num b.num (a.den * d) (b.den * d) (mul-pos a_some some) (mul-pos b_some some))
  where
    left : (i j k : ℕ) → j * (i * k * (j * k)) ≡ j * k * (i * j * k)
    left i j k = omega arith

    right : (i j k : ℕ) → i * (i * k * (j * k)) ≡ i * k * (i * j * k)
    right i j k = omega arith

-- ---- a sum of terms at a point

pub weighted_den : (ps : List (Fraction × ℤ)) → 0 < (weighted_sum ps).den
weighted_den [] = omega arith
weighted_den (p ∷ ps) = mul-pos (omega arith) (weighted_den ps)

pub low-weighted_sum : (ps : List (Fraction × ℤ)) (d : ℕ) → 0 < d → low (over d (weighted_sum ps)) ≡ total (λ p. p.0 ⊗ lowest p.1 d) ps
low-weighted_sum [] d some =
    lowest-same (pos 0) (pos 0) (1 * d) 1 (mul-pos (omega arith) some) (omega arith) (omega (arith, ints)) ∙ lowest-self zero_value apart_of-zero
low-weighted_sum (p ∷ ps) d some =
    low-over_plus (times p.0 p.1) (weighted_sum ps) d (omega arith) (weighted_den ps) some
    ∙ ap₂ exact_sum (sym (product_of_lowest p.0 p.1 d some)) (low-weighted_sum ps d some)

-- the value of a variable, by its place
abbrev pub at_point : List ℤ → ℕ → ℕ → Fraction
at_point X d j = lowest (slice_index_or X j (pos 0)) d

pub low-row_value : (row : Row) (X : List ℤ) (d : ℕ) → 0 < d → low (row_value row X d) ≡ total (λ t. t.coef ⊗ at_point X d t.var) row.terms
low-row_value row X d some =
    low-weighted_sum (map (λ t. (t.coef, slice_index_or X t.var (pos 0))) row.terms) d some
    ∙ total-map (λ p. p.0 ⊗ lowest p.1 d) (λ t. (t.coef, slice_index_or X t.var (pos 0))) row.terms

-- what 0 is added to
pub low-ratio : (x : Fraction) → low (ratio x) ≡ x ⊕ zero_value
unfolding exact_sum
low-ratio x = ap₂ lowest (sym (ends x.num (den x))) (omega arith)
  where
    ends : (a : ℤ) (b : ℕ) → a *ℤ pos 1 +ℤ pos 0 *ℤ pos b ≡ a
    ends a b = omega (arith, ints)

pub plus_low : (s c : Fraction) → s ⊕ low (ratio c) ≡ s ⊕ c
plus_low s c =
    ap (λ t. s ⊕ t) (low-ratio c) ∙ sym (exact_sum_assoc s c zero_value) ∙ exact_sum-zero_right (s ⊕ c) (apart_of-sum s c)

pub low-objective_value : (m : Model) (X : List ℤ) (d : ℕ) → 0 < d → low (objective_value m X d) ≡ total (λ p. p.0 ⊗ lowest p.1 d) (zip (map (λ v. v.obj) m.vars) X) ⊕ m.constant
low-objective_value m X d some =
    let ps = zip (map (λ v. v.obj) m.vars) X in
    low-plus (over d (weighted_sum ps)) (ratio m.constant) (mul-pos (weighted_den ps) some) (omega arith)
    ∙ ap (λ s. s ⊕ low (ratio m.constant)) (low-weighted_sum ps d some)
    ∙ plus_low (total (λ p. p.0 ⊗ lowest p.1 d) ps) m.constant

-- ---- the order

pub at_most-low : (r s : Ratio) → 0 < r.den → 0 < s.den → AtMost r s → IsAtMost (low r) (low s)
at_most-low r s r_some s_some h = IsAtMost-lowest r.num s.num r.den s.den r_some s_some h

pub low-at_most : (r s : Ratio) → 0 < r.den → 0 < s.den → IsAtMost (low r) (low s) → AtMost r s
low-at_most r s r_some s_some h =
    le_of_lt_not (r.num *ℤ pos s.den) (s.num *ℤ pos r.den) (λ less. IsBelow-not (low s) (low r) (IsBelow-lowest s.num r.num s.den r.den s_some r_some less) h)

pub low_below : (x : Fraction) → IsAtMost (low (ratio x)) x
low_below x = let same = lowest-cross x.num (den x) (omega arith) in record { at_most = omega (arith, ints, same) }

pub below_low : (x : Fraction) → IsAtMost x (low (ratio x))
below_low x = let same = lowest-cross x.num (den x) (omega arith) in record { at_most = omega (arith, ints, same) }

-- ---- comparisons that hold

pub at_most_holds : (x y : Fraction) → IsTrue (is_at_most x y) → IsAtMost x y
at_most_holds x y = told (order_of x y) (order_of-tells x y)
  where
    told : (r : Ordering) → MatchOrdering r (IsBelow x y) (x.num *ℤ pos (den y) ≡ y.num *ℤ pos (den x)) (IsBelow y x) → IsTrue (is_le r) → IsAtMost x y
    told Less h shown = IsAtMost-from_below x y h
    told Equal h shown = record { at_most = omega (arith, ints, h) }
    told Greater h shown = absurd (cc)

pub below_holds : (x y : Fraction) → IsTrue (is_below x y) → IsBelow x y
below_holds x y = told (order_of x y) (order_of-tells x y)
  where
    told : (r : Ordering) → MatchOrdering r (IsBelow x y) (x.num *ℤ pos (den y) ≡ y.num *ℤ pos (den x)) (IsBelow y x) → IsTrue (is_lt r) → IsBelow x y
    told Less h shown = h
    told Equal h shown = absurd (cc)
    told Greater h shown = absurd (cc)

pub same_holds : (x y : Fraction) → IsTrue (is_same x y) → low (ratio x) ≡ low (ratio y)
same_holds x y = told (order_of x y) (order_of-tells x y)
  where
    told : (r : Ordering) → MatchOrdering r (IsBelow x y) (x.num *ℤ pos (den y) ≡ y.num *ℤ pos (den x)) (IsBelow y x) → IsTrue (is_eq r) → low (ratio x) ≡ low (ratio y)
    told Less h shown = absurd (cc)
    told Equal h shown = lowest-same x.num y.num (den x) (den y) (omega arith) (omega arith) h
    told Greater h shown = absurd (cc)

-- ---- and back

pub at_most_shown : (x y : Fraction) → IsAtMost x y → IsTrue (is_at_most x y)
at_most_shown x y most = shown (order_of x y) (order_of-tells x y)
  where
    shown : (r : Ordering) → MatchOrdering r (IsBelow x y) (x.num *ℤ pos (den y) ≡ y.num *ℤ pos (den x)) (IsBelow y x) → IsTrue (is_le r)
    shown Less h = refl
    shown Equal h = refl
    shown Greater h = absurd (IsBelow-not y x h most)

pub same_shown : (x y : Fraction) → x.num *ℤ pos (den y) ≡ y.num *ℤ pos (den x) → IsTrue (is_same x y)
same_shown x y same = ap is_eq (sym (int_cmp_is (x.num *ℤ pos (den y)) (y.num *ℤ pos (den x)) Equal same))

pub below_shown : (x y : Fraction) → IsBelow x y → IsTrue (is_below x y)
below_shown x y below = shown (order_of x y) (order_of-tells x y)
  where
    shown : (r : Ordering) → MatchOrdering r (IsBelow x y) (x.num *ℤ pos (den y) ≡ y.num *ℤ pos (den x)) (IsBelow y x) → IsTrue (is_lt r)
    shown Less h = refl
    shown Equal h = let less = below.below in absurd (omega (arith, ints, less, h))
    shown Greater h = let less = below.below in let more = h.below in absurd (omega (arith, ints, less, more))
