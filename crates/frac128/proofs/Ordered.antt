-- The order of fractions by value, and what sums and products do to it.
use Rattle.std.proofs.Common.{◌≡◌, ◌↔◌, ◌⊎◌, inl, inr, refl, sym, ◌∙◌, ap, ap₂, subst, subst₂, ℕ, ◌*◌, ◌<◌, ℤ, pos, negsuc, ◌+ℤ◌, ◌*ℤ◌, neg_ℤ, Ordering, Less, Equal, Greater, arith}
use Rattle.std.specs.Prelude.{◌<ℤ◌, ◌≤ℤ◌}
use Rattle.std.specs.Ordering.{MatchOrdering}
use Rattle.std.specs.Cmp.{int_cmp_is, int_ranked}
use Rattle.std.proofs.Math.Nat.{mul-pos, mul_comm}
use Rattle.std.proofs.lemmas.Int.{by_lt_z, ints}
use Rattle.frac128.specs.Fraction.{exact_difference, Fraction, den, lowest, zero_value, negation, exact_sum, exact_product}
use Rattle.frac128.specs.Lowest.{IsInLowestTerms}
use Rattle.frac128.specs.Order.{IsAtMost, IsBelow, order_of}
use Rattle.frac128.proofs.Field.{exact_difference-sum, exact_sum-negation, exact_sum-zero_left, exact_sum_comm, exact_product-negation_right, lowest-cross, lowest-self, negation-negation}
use Rattle.frac128.proofs.Integers.{add-mul, le-mul_pos, le_of_mul_pos, lt-mul_pos, lt_of_mul_pos, mul-mul_comm, mul-mul_pos, neg-mul}
use Rattle.frac128.proofs.Seen.{lowest-same}

-- ---- the order alone

pub IsAtMost-self : (x : Fraction) → IsAtMost x x
IsAtMost-self x = record { at_most = omega (arith, ints) }

-- a cross product by the third denominator
over : (a : ℤ) (b c : ℕ) → a *ℤ pos b *ℤ pos c ≡ a *ℤ pos c *ℤ pos b
over a b c = mul-mul_pos a b c ∙ ap (λ k. a *ℤ pos k) (mul_comm b c) ∙ sym (mul-mul_pos a c b)

pub IsAtMost_trans : (x y z : Fraction) → IsAtMost x y → IsAtMost y z → IsAtMost x z
IsAtMost_trans x y z h k =
    let left = le-mul_pos (x.num *ℤ pos (den y)) (y.num *ℤ pos (den x)) (den z) h.at_most in
    let right = le-mul_pos (y.num *ℤ pos (den z)) (z.num *ℤ pos (den y)) (den x) k.at_most in
    let p = over x.num (den y) (den z) in
    let q = over y.num (den x) (den z) in
    let r = over z.num (den y) (den x) in
    record { at_most = le_of_mul_pos (x.num *ℤ pos (den z)) (z.num *ℤ pos (den x)) (den y) (omega arith) (omega (arith, ints, left, right, p, q, r)) }

pub IsBelow_trans : (x y z : Fraction) → IsBelow x y → IsAtMost y z → IsBelow x z
IsBelow_trans x y z h k =
    let left = lt-mul_pos (x.num *ℤ pos (den y)) (y.num *ℤ pos (den x)) (den z) (omega arith) h.below in
    let right = le-mul_pos (y.num *ℤ pos (den z)) (z.num *ℤ pos (den y)) (den x) k.at_most in
    let p = over x.num (den y) (den z) in
    let q = over y.num (den x) (den z) in
    let r = over z.num (den y) (den x) in
    record { below = lt_of_mul_pos (x.num *ℤ pos (den z)) (z.num *ℤ pos (den x)) (den y) (omega (arith, ints, left, right, p, q, r)) }

pub IsBelow_trans_right : (x y z : Fraction) → IsAtMost x y → IsBelow y z → IsBelow x z
IsBelow_trans_right x y z h k =
    let left = le-mul_pos (x.num *ℤ pos (den y)) (y.num *ℤ pos (den x)) (den z) h.at_most in
    let right = lt-mul_pos (y.num *ℤ pos (den z)) (z.num *ℤ pos (den y)) (den x) (omega arith) k.below in
    let p = over x.num (den y) (den z) in
    let q = over y.num (den x) (den z) in
    let r = over z.num (den y) (den x) in
    record { below = lt_of_mul_pos (x.num *ℤ pos (den z)) (z.num *ℤ pos (den x)) (den y) (omega (arith, ints, left, right, p, q, r)) }

pub IsAtMost-from_below : (x y : Fraction) → IsBelow x y → IsAtMost x y
IsAtMost-from_below x y h = let less = h.below in record { at_most = omega (arith, ints, less) }

pub IsBelow-not : (x y : Fraction) → IsBelow x y → IsAtMost y x → ⊥
IsBelow-not x y h k = let less = h.below in let most = k.at_most in omega (arith, ints, less, most)

-- one of two holds
pub cases_below : (x y : Fraction) → IsBelow x y ⊎ IsAtMost y x
cases_below x y =
    by_lt_z (x.num *ℤ pos (den y)) (y.num *ℤ pos (den x)) (λ less. inl record { below = less }) (λ most. inr record { at_most = most })

pub IsAtMost_total : (x y : Fraction) → IsAtMost x y ⊎ IsAtMost y x
IsAtMost_total x y =
    by_lt_z (x.num *ℤ pos (den y)) (y.num *ℤ pos (den x)) (λ less. inl record { at_most = omega (arith, ints, less) }) (λ most. inr record { at_most = most })

-- equal cross products of fractions in lowest terms
pub same_from_cross : (x y : Fraction) → IsInLowestTerms x → IsInLowestTerms y → x.num *ℤ pos (den y) ≡ y.num *ℤ pos (den x) → x ≡ y
same_from_cross x y left right cross =
    sym (lowest-self x left) ∙ lowest-same x.num y.num (den x) (den y) (omega arith) (omega arith) cross ∙ lowest-self y right

pub IsAtMost_antisymm : (x y : Fraction) → IsInLowestTerms x → IsInLowestTerms y → IsAtMost x y → IsAtMost y x → x ≡ y
IsAtMost_antisymm x y left right h k =
    let one = h.at_most in
    let other = k.at_most in
    same_from_cross x y left right (omega (arith, ints, one, other))

-- ---- what `order_of` answers

pub order_of-tells : (x y : Fraction) → MatchOrdering (order_of x y) (IsBelow x y) (x.num *ℤ pos (den y) ≡ y.num *ℤ pos (den x)) (IsBelow y x)
order_of-tells x y = told (order_of x y) (int_ranked (x.num *ℤ pos (den y)) (y.num *ℤ pos (den x)) (order_of x y) refl)
  where
    told : (r : Ordering) → MatchOrdering r ((x.num *ℤ pos (den y)) <ℤ (y.num *ℤ pos (den x))) (x.num *ℤ pos (den y) ≡ y.num *ℤ pos (den x)) ((y.num *ℤ pos (den x)) <ℤ (x.num *ℤ pos (den y))) → MatchOrdering r (IsBelow x y) (x.num *ℤ pos (den y) ≡ y.num *ℤ pos (den x)) (IsBelow y x)
    told Less h = record { below = h }
    told Equal h = h
    told Greater h = record { below = h }

pub order_of-less : (x y : Fraction) → (order_of x y ≡ Less) ↔ IsBelow x y
order_of-less x y = (
  λ e. subst (λ r. MatchOrdering r (IsBelow x y) (x.num *ℤ pos (den y) ≡ y.num *ℤ pos (den x)) (IsBelow y x)) e (order_of-tells x y),
  λ h. sym (int_cmp_is (x.num *ℤ pos (den y)) (y.num *ℤ pos (den x)) Less h.below),
)

pub order_of-greater : (x y : Fraction) → (order_of x y ≡ Greater) ↔ IsBelow y x
order_of-greater x y = (
  λ e. subst (λ r. MatchOrdering r (IsBelow x y) (x.num *ℤ pos (den y) ≡ y.num *ℤ pos (den x)) (IsBelow y x)) e (order_of-tells x y),
  λ h. sym (int_cmp_is (x.num *ℤ pos (den y)) (y.num *ℤ pos (den x)) Greater h.below),
)

pub order_of-equal : (x y : Fraction) → IsInLowestTerms x → IsInLowestTerms y → (order_of x y ≡ Equal) ↔ (x ≡ y)
order_of-equal x y left right = (
  λ e. same_from_cross x y left right (subst (λ r. MatchOrdering r (IsBelow x y) (x.num *ℤ pos (den y) ≡ y.num *ℤ pos (den x)) (IsBelow y x)) e (order_of-tells x y)),
  λ e. sym (int_cmp_is (x.num *ℤ pos (den y)) (y.num *ℤ pos (den x)) Equal (ap₂ (λ (p q : Fraction). p.num *ℤ pos (den q)) e (sym e))),
)

-- ---- lowest terms keep the order

-- a cross product of lowest terms, times both denominators
crossed : (n : ℤ) (d m e : ℕ) → 0 < d → (lowest n d).num *ℤ pos m *ℤ pos (d * e) ≡ n *ℤ pos e *ℤ pos (den (lowest n d) * m)
crossed n d m e some =
    let l = (lowest n d).num in
    mul-mul_comm' l m d e ∙ ap (λ z. z *ℤ pos (m * e)) (lowest-cross n d some) ∙ back n (den (lowest n d)) m e
  where
    mul-mul_comm' : (a : ℤ) (i j k : ℕ) → a *ℤ pos i *ℤ pos (j * k) ≡ a *ℤ pos j *ℤ pos (i * k)
    mul-mul_comm' a i j k = mul-mul_comm a (pos i) (pos j) (pos k)

    shuffle : (i j k : ℕ) → i * (j * k) ≡ k * (i * j)
    shuffle i j k = omega arith

    back : (a : ℤ) (i j k : ℕ) → a *ℤ pos i *ℤ pos (j * k) ≡ a *ℤ pos k *ℤ pos (i * j)
    back a i j k = mul-mul_pos a i (j * k) ∙ ap (λ p. a *ℤ pos p) (shuffle i j k) ∙ sym (mul-mul_pos a k (i * j))

pub IsAtMost-lowest : (n m : ℤ) (d e : ℕ) → 0 < d → 0 < e → (n *ℤ pos e) ≤ℤ (m *ℤ pos d) → IsAtMost (lowest n d) (lowest m e)
IsAtMost-lowest n m d e d_some e_some h =
    let x = lowest n d in
    let y = lowest m e in
    let left = crossed n d (den y) e d_some in
    let right : y.num *ℤ pos (den x) *ℤ pos (d * e) ≡ m *ℤ pos d *ℤ pos (den x * den y) =
    ap (λ k. y.num *ℤ pos (den x) *ℤ pos k) (mul_comm d e) ∙ crossed m e (den x) d e_some ∙ ap (λ k. m *ℤ pos d *ℤ pos k) (mul_comm (den y) (den x)) in
    let scaled = le-mul_pos (n *ℤ pos e) (m *ℤ pos d) (den x * den y) h in
    record { at_most = le_of_mul_pos (x.num *ℤ pos (den y)) (y.num *ℤ pos (den x)) (d * e) (mul-pos d_some e_some) (subst₂ (λ p q. p ≤ℤ q) (sym left) (sym right) scaled) }

pub IsBelow-lowest : (n m : ℤ) (d e : ℕ) → 0 < d → 0 < e → (n *ℤ pos e) <ℤ (m *ℤ pos d) → IsBelow (lowest n d) (lowest m e)
IsBelow-lowest n m d e d_some e_some h =
    let x = lowest n d in
    let y = lowest m e in
    let left = crossed n d (den y) e d_some in
    let right : y.num *ℤ pos (den x) *ℤ pos (d * e) ≡ m *ℤ pos d *ℤ pos (den x * den y) =
    ap (λ k. y.num *ℤ pos (den x) *ℤ pos k) (mul_comm d e) ∙ crossed m e (den x) d e_some ∙ ap (λ k. m *ℤ pos d *ℤ pos k) (mul_comm (den y) (den x)) in
    let scaled = lt-mul_pos (n *ℤ pos e) (m *ℤ pos d) (den x * den y) (mul-pos (omega arith) (omega arith)) h in
    record { below = lt_of_mul_pos (x.num *ℤ pos (den y)) (y.num *ℤ pos (den x)) (d * e) (subst₂ (λ p q. p <ℤ q) (sym left) (sym right) scaled) }

-- ---- sums

-- (a/b + e/f) and (c/d + e/f) by cross products: what differs, and what is the same
sum_crossed : (a e : ℤ) (b d f : ℕ) → (a *ℤ pos f +ℤ e *ℤ pos b) *ℤ pos (d * f) ≡ a *ℤ pos d *ℤ pos (f * f) +ℤ e *ℤ pos (b * d * f)
sum_crossed a e b d f =
    add-mul (a *ℤ pos f) (e *ℤ pos b) (pos (d * f))
    ∙ ap₂ (λ p q. p +ℤ q) (mul-mul_pos a f (d * f) ∙ ap (λ k. a *ℤ pos k) (left d f) ∙ sym (mul-mul_pos a d (f * f))) (mul-mul_pos e b (d * f) ∙ ap (λ k. e *ℤ pos k) (right b d f))
  where
    left : (i j : ℕ) → j * (i * j) ≡ i * (j * j)
    left i j = omega arith

    right : (i j k : ℕ) → i * (j * k) ≡ i * j * k
    right i j k = omega arith

pub IsAtMost-sum : (x y z : Fraction) → IsAtMost x y → IsAtMost (exact_sum x z) (exact_sum y z)
unfolding exact_sum
IsAtMost-sum x y z h =
    let scaled = le-mul_pos (x.num *ℤ pos (den y)) (y.num *ℤ pos (den x)) (den z * den z) h.at_most in
    let left = sum_crossed x.num z.num (den x) (den y) (den z) in
    let right = sum_crossed y.num z.num (den y) (den x) (den z) ∙ ap (λ k. y.num *ℤ pos (den x) *ℤ pos (den z * den z) +ℤ z.num *ℤ pos (k * den z)) (mul_comm (den y) (den x)) in
    IsAtMost-lowest _ _ (den x * den z) (den y * den z) (mul-pos (omega arith) (omega arith)) (mul-pos (omega arith) (omega arith))
    (subst₂ (λ p q. p ≤ℤ q) (sym left) (sym right) (shifted _ _ (z.num *ℤ pos (den x * den y * den z)) scaled))
  where
    shifted : (p q r : ℤ) → p ≤ℤ q → (p +ℤ r) ≤ℤ (q +ℤ r)
    shifted p q r k = omega (arith, ints, k)

pub IsBelow-sum : (x y z : Fraction) → IsBelow x y → IsBelow (exact_sum x z) (exact_sum y z)
unfolding exact_sum
IsBelow-sum x y z h =
    let scaled = lt-mul_pos (x.num *ℤ pos (den y)) (y.num *ℤ pos (den x)) (den z * den z) (mul-pos (omega arith) (omega arith)) h.below in
    let left = sum_crossed x.num z.num (den x) (den y) (den z) in
    let right = sum_crossed y.num z.num (den y) (den x) (den z) ∙ ap (λ k. y.num *ℤ pos (den x) *ℤ pos (den z * den z) +ℤ z.num *ℤ pos (k * den z)) (mul_comm (den y) (den x)) in
    IsBelow-lowest _ _ (den x * den z) (den y * den z) (mul-pos (omega arith) (omega arith)) (mul-pos (omega arith) (omega arith))
    (subst₂ (λ p q. p <ℤ q) (sym left) (sym right) (shifted _ _ (z.num *ℤ pos (den x * den y * den z)) scaled))
  where
    shifted : (p q r : ℤ) → p <ℤ q → (p +ℤ r) <ℤ (q +ℤ r)
    shifted p q r k = omega (arith, ints, k)

pub IsAtMost-sums : (x y z w : Fraction) → IsAtMost x y → IsAtMost z w → IsAtMost (exact_sum x z) (exact_sum y w)
IsAtMost-sums x y z w h k =
    IsAtMost_trans (exact_sum x z) (exact_sum y z) (exact_sum y w) (IsAtMost-sum x y z h)
    (subst₂ IsAtMost (exact_sum_comm z y) (exact_sum_comm w y) (IsAtMost-sum z w y k))

-- the order by the sign of the difference
pub IsAtMost-difference : (x y : Fraction) → IsAtMost x y → IsAtMost zero_value (exact_difference y x)
IsAtMost-difference x y h =
    subst (λ z. IsAtMost z (exact_difference y x)) (exact_sum-negation x) (IsAtMost-sum x y (negation x) h)

pub IsAtMost_of-difference : (x y : Fraction) → IsInLowestTerms x → IsInLowestTerms y → IsAtMost zero_value (exact_difference y x) → IsAtMost x y
IsAtMost_of-difference x y left right h =
    subst₂ IsAtMost (exact_sum-zero_left x left) (exact_difference-sum y x right) (IsAtMost-sum zero_value (exact_difference y x) x h)

-- ---- signs

times_one : (a : ℤ) → a *ℤ pos 1 ≡ a
times_one a = omega (arith, ints)

zero_times : (d : ℕ) → pos 0 *ℤ pos d ≡ pos 0
zero_times d = omega (arith, ints)

pub above_zero : (x : Fraction) → IsBelow zero_value x ↔ (pos 0 <ℤ x.num)
above_zero x = (
  λ h. subst₂ (λ p q. p <ℤ q) (zero_times (den x)) (times_one x.num) h.below,
  λ h. record { below = subst₂ (λ p q. p <ℤ q) (sym (zero_times (den x))) (sym (times_one x.num)) h },
)

pub below_zero : (x : Fraction) → IsBelow x zero_value ↔ (x.num <ℤ pos 0)
below_zero x = (
  λ h. subst₂ (λ p q. p <ℤ q) (times_one x.num) (zero_times (den x)) h.below,
  λ h. record { below = subst₂ (λ p q. p <ℤ q) (sym (times_one x.num)) (sym (zero_times (den x))) h },
)

-- ---- negations

pub IsAtMost-negation : (x y : Fraction) → IsAtMost x y → IsAtMost (negation y) (negation x)
IsAtMost-negation x y h =
    let p = neg-mul x.num (pos (den y)) in
    let q = neg-mul y.num (pos (den x)) in
    let most = h.at_most in
    record { at_most = subst₂ (λ i j. i ≤ℤ j) (sym q) (sym p) (turned (x.num *ℤ pos (den y)) (y.num *ℤ pos (den x)) most) }
  where
    turned : (a b : ℤ) → a ≤ℤ b → neg_ℤ b ≤ℤ neg_ℤ a
    turned a b k = omega (arith, ints, k)

pub IsBelow-negation : (x y : Fraction) → IsBelow x y → IsBelow (negation y) (negation x)
IsBelow-negation x y h =
    let p = neg-mul x.num (pos (den y)) in
    let q = neg-mul y.num (pos (den x)) in
    let less = h.below in
    record { below = subst₂ (λ i j. i <ℤ j) (sym q) (sym p) (turned (x.num *ℤ pos (den y)) (y.num *ℤ pos (den x)) less) }
  where
    turned : (a b : ℤ) → a <ℤ b → neg_ℤ b <ℤ neg_ℤ a
    turned a b k = omega (arith, ints, k)

-- ---- products

-- a product's cross product is that of the factors, times the natural k of the other numerator
product_crossed : (a : ℤ) (k d f : ℕ) → a *ℤ pos k *ℤ pos (d * f) ≡ a *ℤ pos d *ℤ pos (k * f)
product_crossed a k d f = mul-mul_comm a (pos k) (pos d) (pos f)

at_most-scaled : (x y : Fraction) (k f : ℕ) → 0 < f → IsAtMost x y → IsAtMost (lowest (x.num *ℤ pos k) (den x * f)) (lowest (y.num *ℤ pos k) (den y * f))
at_most-scaled x y k f some h =
    IsAtMost-lowest (x.num *ℤ pos k) (y.num *ℤ pos k) (den x * f) (den y * f) (mul-pos (omega arith) some) (mul-pos (omega arith) some)
    (subst₂ (λ p q. p ≤ℤ q) (sym (product_crossed x.num k (den y) f)) (sym (product_crossed y.num k (den x) f))
    (le-mul_pos (x.num *ℤ pos (den y)) (y.num *ℤ pos (den x)) (k * f) h.at_most))

below-scaled : (x y : Fraction) (k f : ℕ) → 0 < k → 0 < f → IsBelow x y → IsBelow (lowest (x.num *ℤ pos k) (den x * f)) (lowest (y.num *ℤ pos k) (den y * f))
below-scaled x y k f k_some some h =
    IsBelow-lowest (x.num *ℤ pos k) (y.num *ℤ pos k) (den x * f) (den y * f) (mul-pos (omega arith) some) (mul-pos (omega arith) some)
    (subst₂ (λ p q. p <ℤ q) (sym (product_crossed x.num k (den y) f)) (sym (product_crossed y.num k (den x) f))
    (lt-mul_pos (x.num *ℤ pos (den y)) (y.num *ℤ pos (den x)) (k * f) (mul-pos k_some some) h.below))

num_at_least_zero : (z : Fraction) → IsAtMost zero_value z → pos 0 ≤ℤ z.num
num_at_least_zero z h = let most = h.at_most in omega (arith, ints, most)

-- products by a value that is at least 0 keep the order
pub IsAtMost-product : (x y z : Fraction) → IsAtMost zero_value z → IsAtMost x y → IsAtMost (exact_product x z) (exact_product y z)
unfolding exact_product
IsAtMost-product x y z sign h = by_sign z.num (den z) (omega arith) (num_at_least_zero z sign)
  where
    by_sign : (n : ℤ) (f : ℕ) → 0 < f → pos 0 ≤ℤ n → IsAtMost (lowest (x.num *ℤ n) (den x * f)) (lowest (y.num *ℤ n) (den y * f))
    by_sign (pos k) f some most = at_most-scaled x y k f some h
    by_sign (negsuc k) f some most = absurd (omega (arith, ints, most))

-- products by a value above 0 keep the strict order
pub IsBelow-product : (x y z : Fraction) → IsBelow zero_value z → IsBelow x y → IsBelow (exact_product x z) (exact_product y z)
unfolding exact_product
IsBelow-product x y z sign h = by_sign z.num (den z) (omega arith) ((above_zero z).0 sign)
  where
    by_sign : (n : ℤ) (f : ℕ) → 0 < f → pos 0 <ℤ n → IsBelow (lowest (x.num *ℤ n) (den x * f)) (lowest (y.num *ℤ n) (den y * f))
    by_sign (pos k) f some less = below-scaled x y k f (omega (arith, ints, less)) some h
    by_sign (negsuc k) f some less = absurd (omega (arith, ints, less))

-- the product by -z, turned
turned_product : (x z : Fraction) → negation (exact_product x (negation z)) ≡ exact_product x z
turned_product x z = ap negation (exact_product-negation_right x z) ∙ negation-negation (exact_product x z)

-- products by a value that is at most 0 turn the order
pub IsAtMost-product_turned : (x y z : Fraction) → IsAtMost z zero_value → IsAtMost x y → IsAtMost (exact_product y z) (exact_product x z)
IsAtMost-product_turned x y z sign h =
    subst₂ IsAtMost (turned_product y z) (turned_product x z)
    (IsAtMost-negation (exact_product x (negation z)) (exact_product y (negation z)) (IsAtMost-product x y (negation z) (IsAtMost-negation z zero_value sign) h))

-- products by a value below 0 turn the strict order
pub IsBelow-product_turned : (x y z : Fraction) → IsBelow z zero_value → IsBelow x y → IsBelow (exact_product y z) (exact_product x z)
IsBelow-product_turned x y z sign h =
    subst₂ IsBelow (turned_product y z) (turned_product x z)
    (IsBelow-negation (exact_product x (negation z)) (exact_product y (negation z)) (IsBelow-product x y (negation z) (IsBelow-negation z zero_value sign) h))
