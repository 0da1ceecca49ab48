-- Exact results are a field: their laws, of all fractions unless a premise says more.
use Rattle.std.proofs.Common.{◌≡◌, ◌≢◌, refl, sym, ◌∙◌, ap, ap₂, subst, ℕ, suc, ◌*◌, ◌<◌, ℤ, pos, negsuc, ◌+ℤ◌, ◌*ℤ◌, neg_ℤ, arith}
use Rattle.std.specs.Prelude.{unsigned_abs}
use Rattle.std.specs.Int.{IsGcd}
use Rattle.std.proofs.Math.Nat.{mul-one, mul-pos, mul_comm, mul_assoc, one-dvd}
use Rattle.std.proofs.lemmas.Int.{ints}
use Rattle.std.proofs.lemmas.Nat.Gcd.{IsGcd-swap}
use Rattle.frac128.specs.Fraction.{Fraction, den, lowest, zero_value, one_value, negation, inverse, exact_sum, exact_difference, exact_product, exact_quotient}
use Rattle.frac128.specs.Lowest.{IsInLowestTerms}
use Rattle.frac128.specs.Numbers.{is_below_zero, signed}
use Rattle.frac128.proofs.Integers.{*ℤ_assoc, *ℤ_comm, add-mul, add_comm, mul-mul_comm, mul-mul_pos, mul_pos-mul, neg-add, neg-mul, neg-neg, size-neg, size-signed, size_above_zero}
use Rattle.frac128.proofs.Seen.{fraction-eta, low_apart, low_cross, low_den, low_den_above_zero, low_num, lowest-same, lowest_is, den-fraction}

-- ---- lowest terms

pub num-lowest : (n : ℤ) (d : ℕ) → (lowest n d).num ≡ low_num n d
unfolding lowest
num-lowest n d = refl

pub den-lowest : (n : ℤ) (d : ℕ) → 0 < d → den (lowest n d) ≡ low_den n d
unfolding lowest
den-lowest n d some = den-fraction (low_num n d) (low_den n d) (low_den_above_zero n d some)

-- lowest terms keep the value
pub lowest-cross : (n : ℤ) (d : ℕ) → 0 < d → (lowest n d).num *ℤ pos d ≡ n *ℤ pos (den (lowest n d))
lowest-cross n d some =
    ap (λ z. z *ℤ pos d) (num-lowest n d) ∙ low_cross n d ∙ ap (λ k. n *ℤ pos k) (sym (den-lowest n d some))

pub lowest-apart : (n : ℤ) (d : ℕ) → 0 < d → IsInLowestTerms (lowest n d)
lowest-apart n d some =
    subst (λ k. IsGcd (unsigned_abs (lowest n d).num) k 1) (sym (den-lowest n d some))
    (subst (λ z. IsGcd (unsigned_abs z) (low_den n d) 1) (sym (num-lowest n d)) (low_apart n d some))

-- a fraction in lowest terms is its own
pub lowest-self : (x : Fraction) → IsInLowestTerms x → lowest x.num (den x) ≡ x
lowest-self x apart = sym (lowest_is x.num x.num (den x) (den x) (omega arith) (omega arith) apart refl) ∙ fraction-eta x

pub apart_of-sum : (x y : Fraction) → IsInLowestTerms (exact_sum x y)
unfolding exact_sum
apart_of-sum x y = lowest-apart _ (den x * den y) (mul-pos (omega arith) (omega arith))

pub apart_of-product : (x y : Fraction) → IsInLowestTerms (exact_product x y)
unfolding exact_product
apart_of-product x y = lowest-apart _ (den x * den y) (mul-pos (omega arith) (omega arith))

-- ---- sums

pub exact_sum_comm : (x y : Fraction) → exact_sum x y ≡ exact_sum y x
unfolding exact_sum
exact_sum_comm x y = ap₂ lowest (add_comm (x.num *ℤ pos (den y)) (y.num *ℤ pos (den x))) (mul_comm (den x) (den y))

spread : (a b : ℤ) (i j k : ℕ) → (a *ℤ pos i +ℤ b *ℤ pos j) *ℤ pos k ≡ a *ℤ pos (i * k) +ℤ b *ℤ pos (j * k)
spread a b i j k = add-mul (a *ℤ pos i) (b *ℤ pos j) (pos k) ∙ ap₂ (λ p q. p +ℤ q) (mul-mul_pos a i k) (mul-mul_pos b j k)

-- an operand may be brought to lowest terms first
lowest_sum : (n c : ℤ) (d e : ℕ) → 0 < d → 0 < e → lowest ((lowest n d).num *ℤ pos e +ℤ c *ℤ pos (den (lowest n d))) (den (lowest n d) * e) ≡ lowest (n *ℤ pos e +ℤ c *ℤ pos d) (d * e)
lowest_sum n c d e d_some e_some =
    let l = (lowest n d).num in
    let m = den (lowest n d) in
    lowest-same (l *ℤ pos e +ℤ c *ℤ pos m) (n *ℤ pos e +ℤ c *ℤ pos d) (m * e) (d * e) (mul-pos (omega arith) e_some) (mul-pos d_some e_some)
    (spread l c e m (d * e)
    ∙ ap₂ (λ p q. p +ℤ c *ℤ pos q)
    (ap (λ k. l *ℤ pos k) (shuffle e d e) ∙ sym (mul-mul_pos l d (e * e)) ∙ ap (λ z. z *ℤ pos (e * e)) (lowest-cross n d d_some) ∙ mul-mul_pos n m (e * e) ∙ ap (λ k. n *ℤ pos k) (sym (shuffle e m e)))
    (shuffle m d e)
    ∙ sym (spread n c e d (m * e)))
  where
    shuffle : (p q r : ℕ) → p * (q * r) ≡ q * (p * r)
    shuffle p q r = omega arith

-- a sum of three over the product of their denominators
abbrev sum_of_three : Fraction → Fraction → Fraction → Fraction
sum_of_three x y z = lowest (x.num *ℤ pos (den y * den z) +ℤ y.num *ℤ pos (den x * den z) +ℤ z.num *ℤ pos (den x * den y)) (den x * den y * den z)

exact_sum-three : (x y z : Fraction) → exact_sum (exact_sum x y) z ≡ sum_of_three x y z
unfolding exact_sum
exact_sum-three x y z =
    lowest_sum (x.num *ℤ pos (den y) +ℤ y.num *ℤ pos (den x)) z.num (den x * den y) (den z) (mul-pos (omega arith) (omega arith)) (omega arith)
    ∙ ap (λ s. lowest (s +ℤ z.num *ℤ pos (den x * den y)) (den x * den y * den z))
    (add-mul (x.num *ℤ pos (den y)) (y.num *ℤ pos (den x)) (pos (den z)) ∙ ap₂ (λ p q. p +ℤ q) (mul-mul_pos x.num (den y) (den z)) (mul-mul_pos y.num (den x) (den z)))

pub exact_sum_assoc : (x y z : Fraction) → exact_sum (exact_sum x y) z ≡ exact_sum x (exact_sum y z)
exact_sum_assoc x y z =
    exact_sum-three x y z
    ∙ ap₂ lowest
    (ap₂ (λ p q. p +ℤ q)
    (ap₂ (λ i j. x.num *ℤ pos i +ℤ y.num *ℤ pos j) (mul_comm (den y) (den z)) (mul_comm (den x) (den z)))
    refl
    ∙ turned (x.num *ℤ pos (den z * den y)) (y.num *ℤ pos (den z * den x)) (z.num *ℤ pos (den x * den y))
    ∙ ap₂ (λ p q. y.num *ℤ pos (den z * den x) +ℤ p +ℤ q) (ap (λ i. z.num *ℤ pos i) (mul_comm (den x) (den y))) (ap (λ i. x.num *ℤ pos i) (mul_comm (den z) (den y))))
    (turned_den (den x) (den y) (den z))
    ∙ sym (exact_sum-three y z x) ∙ exact_sum_comm (exact_sum y z) x
  where
    turned : (a b c : ℤ) → a +ℤ b +ℤ c ≡ b +ℤ c +ℤ a
    turned a b c = omega (arith, ints)

    turned_den : (a b c : ℕ) → a * b * c ≡ b * c * a
    turned_den a b c = omega arith

-- ---- products

pub exact_product_comm : (x y : Fraction) → exact_product x y ≡ exact_product y x
unfolding exact_product
exact_product_comm x y = ap₂ lowest (*ℤ_comm x.num y.num) (mul_comm (den x) (den y))

lowest_product : (n c : ℤ) (d e : ℕ) → 0 < d → 0 < e → lowest ((lowest n d).num *ℤ c) (den (lowest n d) * e) ≡ lowest (n *ℤ c) (d * e)
lowest_product n c d e d_some e_some =
    let l = (lowest n d).num in
    let m = den (lowest n d) in
    lowest-same (l *ℤ c) (n *ℤ c) (m * e) (d * e) (mul-pos (omega arith) e_some) (mul-pos d_some e_some)
    (mul-mul_comm l c (pos d) (pos e) ∙ ap (λ z. z *ℤ (c *ℤ pos e)) (lowest-cross n d d_some) ∙ sym (mul-mul_comm n c (pos m) (pos e)))

exact_product-three : (x y z : Fraction) → exact_product (exact_product x y) z ≡ lowest (x.num *ℤ y.num *ℤ z.num) (den x * den y * den z)
unfolding exact_product
exact_product-three x y z = lowest_product (x.num *ℤ y.num) z.num (den x * den y) (den z) (mul-pos (omega arith) (omega arith)) (omega arith)

pub exact_product_assoc : (x y z : Fraction) → exact_product (exact_product x y) z ≡ exact_product x (exact_product y z)
exact_product_assoc x y z =
    exact_product-three x y z
    ∙ ap₂ lowest (*ℤ_assoc x.num y.num z.num ∙ *ℤ_comm x.num (y.num *ℤ z.num)) (mul_assoc (den x) (den y) (den z) ∙ mul_comm (den x) (den y * den z))
    ∙ sym (exact_product-three y z x) ∙ exact_product_comm (exact_product y z) x

-- ---- products over sums

exact_sum-lowest : (n m : ℤ) (d e : ℕ) → 0 < d → 0 < e → exact_sum (lowest n d) (lowest m e) ≡ lowest (n *ℤ pos e +ℤ m *ℤ pos d) (d * e)
unfolding exact_sum
exact_sum-lowest n m d e d_some e_some =
    let y = lowest m e in
    lowest_sum n y.num d (den y) d_some (omega arith)
    ∙ ap₂ lowest (add_comm (n *ℤ pos (den y)) (y.num *ℤ pos d)) (mul_comm d (den y))
    ∙ lowest_sum m n e d e_some d_some ∙ ap₂ lowest (add_comm (m *ℤ pos d) (n *ℤ pos e)) (mul_comm e d)

product_over_sum : (a c e : ℤ) (b d f : ℕ) → 0 < b → 0 < d → 0 < f → lowest ((a *ℤ pos d +ℤ c *ℤ pos b) *ℤ e) (b * d * f) ≡ lowest (a *ℤ e *ℤ pos (d * f) +ℤ c *ℤ e *ℤ pos (b * f)) (b * f * (d * f))
product_over_sum a c e b d f b_some d_some f_some =
    lowest-same ((a *ℤ pos d +ℤ c *ℤ pos b) *ℤ e) (a *ℤ e *ℤ pos (d * f) +ℤ c *ℤ e *ℤ pos (b * f)) (b * d * f) (b * f * (d * f))
    (mul-pos (mul-pos b_some d_some) f_some) (mul-pos (mul-pos b_some f_some) (mul-pos d_some f_some))
    (ap (λ z. z *ℤ pos (b * f * (d * f))) (add-mul (a *ℤ pos d) (c *ℤ pos b) e ∙ ap₂ (λ p q. p +ℤ q) (mul_pos-mul a e d) (mul_pos-mul c e b))
    ∙ spread (a *ℤ e) (c *ℤ e) d b (b * f * (d * f))
    ∙ ap₂ (λ i j. a *ℤ e *ℤ pos i +ℤ c *ℤ e *ℤ pos j) (left b d f) (right b d f)
    ∙ sym (spread (a *ℤ e) (c *ℤ e) (d * f) (b * f) (b * d * f)))
  where
    left : (i j k : ℕ) → j * (i * k * (j * k)) ≡ j * k * (i * j * k)
    left i j k = omega arith

    right : (i j k : ℕ) → i * (i * k * (j * k)) ≡ i * k * (i * j * k)
    right i j k = omega arith

whole : (x y z : Fraction) → exact_product (exact_sum x y) z ≡ lowest ((x.num *ℤ pos (den y) +ℤ y.num *ℤ pos (den x)) *ℤ z.num) (den x * den y * den z)
unfolding exact_product exact_sum
whole x y z = lowest_product (x.num *ℤ pos (den y) +ℤ y.num *ℤ pos (den x)) z.num (den x * den y) (den z) (mul-pos (omega arith) (omega arith)) (omega arith)

parts : (x y z : Fraction) → exact_sum (exact_product x z) (exact_product y z) ≡ lowest (x.num *ℤ z.num *ℤ pos (den y * den z) +ℤ y.num *ℤ z.num *ℤ pos (den x * den z)) (den x * den z * (den y * den z))
unfolding exact_product
parts x y z = exact_sum-lowest (x.num *ℤ z.num) (y.num *ℤ z.num) (den x * den z) (den y * den z) (mul-pos (omega arith) (omega arith)) (mul-pos (omega arith) (omega arith))

pub exact_product-sum : (x y z : Fraction) → exact_product (exact_sum x y) z ≡ exact_sum (exact_product x z) (exact_product y z)
exact_product-sum x y z =
    whole x y z ∙ product_over_sum x.num y.num z.num (den x) (den y) (den z) (omega arith) (omega arith) (omega arith) ∙ sym (parts x y z)

-- the same from the left
pub exact_product-sum_right : (x y z : Fraction) → exact_product x (exact_sum y z) ≡ exact_sum (exact_product x y) (exact_product x z)
exact_product-sum_right x y z =
    exact_product_comm x (exact_sum y z) ∙ exact_product-sum y z x ∙ ap₂ exact_sum (exact_product_comm y x) (exact_product_comm z x)

-- ---- 0 and 1

pub apart_of-zero : IsInLowestTerms zero_value
apart_of-zero = (one-dvd 0, one-dvd 1, λ k p q. q)

pub apart_of-one : IsInLowestTerms one_value
apart_of-one = (one-dvd 1, one-dvd 1, λ k p q. q)

pub lowest-zero : (d : ℕ) → 0 < d → lowest (pos 0) d ≡ zero_value
lowest-zero d some = sym (lowest_is (pos 0) (pos 0) 1 d (omega arith) some apart_of-zero (omega (arith, ints)))

lowest-one : (d : ℕ) → 0 < d → lowest (pos d) d ≡ one_value
lowest-one d some = sym (lowest_is (pos 1) (pos d) 1 d (omega arith) some apart_of-one (omega (arith, ints)))

pub exact_sum-zero_right : (x : Fraction) → IsInLowestTerms x → exact_sum x zero_value ≡ x
unfolding exact_sum
exact_sum-zero_right x apart =
    ap₂ lowest (ends x.num (den x)) (mul-one (den x)) ∙ lowest-self x apart
  where
    ends : (a : ℤ) (b : ℕ) → a *ℤ pos 1 +ℤ pos 0 *ℤ pos b ≡ a
    ends a b = omega (arith, ints)

pub exact_sum-zero_left : (x : Fraction) → IsInLowestTerms x → exact_sum zero_value x ≡ x
exact_sum-zero_left x apart = exact_sum_comm zero_value x ∙ exact_sum-zero_right x apart

pub exact_product-zero_right : (x : Fraction) → exact_product x zero_value ≡ zero_value
unfolding exact_product
exact_product-zero_right x = ap (λ n. lowest n (den x * 1)) (none x.num) ∙ lowest-zero (den x * 1) (omega arith)
  where
    none : (a : ℤ) → a *ℤ pos 0 ≡ pos 0
    none a = omega (arith, ints)

pub exact_product-zero_left : (x : Fraction) → exact_product zero_value x ≡ zero_value
exact_product-zero_left x = exact_product_comm zero_value x ∙ exact_product-zero_right x

pub exact_product-one_right : (x : Fraction) → IsInLowestTerms x → exact_product x one_value ≡ x
unfolding exact_product
exact_product-one_right x apart = ap₂ lowest (same x.num) (mul-one (den x)) ∙ lowest-self x apart
  where
    same : (a : ℤ) → a *ℤ pos 1 ≡ a
    same a = omega (arith, ints)

pub exact_product-one_left : (x : Fraction) → IsInLowestTerms x → exact_product one_value x ≡ x
exact_product-one_left x apart = exact_product_comm one_value x ∙ exact_product-one_right x apart

-- ---- negations

pub negation-negation : (x : Fraction) → negation (negation x) ≡ x
negation-negation x = ap (λ (n : ℤ). let y : Fraction = record { num = n; below = x.below } in y) (neg-neg x.num)

pub lowest-neg : (n : ℤ) (d : ℕ) → 0 < d → lowest (neg_ℤ n) d ≡ negation (lowest n d)
lowest-neg n d some =
    let x = negation (lowest n d) in
    let apart : IsInLowestTerms x = subst (λ k. IsGcd k (den x) 1) (sym (size-neg (lowest n d).num)) (lowest-apart n d some) in
    let cross : x.num *ℤ pos d ≡ neg_ℤ n *ℤ pos (den x) =
    neg-mul (lowest n d).num (pos d) ∙ ap neg_ℤ (lowest-cross n d some) ∙ sym (neg-mul n (pos (den x))) in
    sym (lowest_is x.num (neg_ℤ n) (den x) d (omega arith) some apart cross) ∙ fraction-eta x

pub exact_sum-negation : (x : Fraction) → exact_sum x (negation x) ≡ zero_value
unfolding exact_sum
exact_sum-negation x =
    ap (λ n. lowest n (den x * den x)) (ap (λ z. x.num *ℤ pos (den x) +ℤ z) (neg-mul x.num (pos (den x))) ∙ none (x.num *ℤ pos (den x)))
    ∙ lowest-zero (den x * den x) (mul-pos (omega arith) (omega arith))
  where
    none : (a : ℤ) → a +ℤ neg_ℤ a ≡ pos 0
    none a = omega (arith, ints)

pub negation-sum : (x y : Fraction) → negation (exact_sum x y) ≡ exact_sum (negation x) (negation y)
unfolding exact_sum
negation-sum x y =
    sym (lowest-neg (x.num *ℤ pos (den y) +ℤ y.num *ℤ pos (den x)) (den x * den y) (mul-pos (omega arith) (omega arith)))
    ∙ ap (λ n. lowest n (den x * den y)) (neg-add (x.num *ℤ pos (den y)) (y.num *ℤ pos (den x)) ∙ sym (ap₂ (λ p q. p +ℤ q) (neg-mul x.num (pos (den y))) (neg-mul y.num (pos (den x)))))

pub exact_product-negation_left : (x y : Fraction) → exact_product (negation x) y ≡ negation (exact_product x y)
unfolding exact_product
exact_product-negation_left x y =
    ap (λ n. lowest n (den x * den y)) (neg-mul x.num y.num) ∙ lowest-neg (x.num *ℤ y.num) (den x * den y) (mul-pos (omega arith) (omega arith))

pub exact_product-negation_right : (x y : Fraction) → exact_product x (negation y) ≡ negation (exact_product x y)
exact_product-negation_right x y =
    exact_product_comm x (negation y) ∙ exact_product-negation_left y x ∙ ap negation (exact_product_comm y x)

-- what is taken away and given back
pub exact_difference-sum : (x y : Fraction) → IsInLowestTerms x → exact_sum (exact_difference x y) y ≡ x
exact_difference-sum x y apart =
    exact_sum_assoc x (negation y) y
    ∙ ap (exact_sum x) (exact_sum_comm (negation y) y ∙ exact_sum-negation y)
    ∙ exact_sum-zero_right x apart

-- ---- inverses

pub den-inverse : (x : Fraction) → x.num ≢ pos 0 → den (inverse x) ≡ unsigned_abs x.num
unfolding inverse
den-inverse x some = den-fraction (signed (is_below_zero x.num) (den x)) (unsigned_abs x.num) (size_above_zero x.num some)

pub num-inverse : (x : Fraction) → (inverse x).num ≡ signed (is_below_zero x.num) (den x)
unfolding inverse
num-inverse x = refl

signed_size : (a : ℤ) (b : ℕ) → a *ℤ signed (is_below_zero a) b ≡ pos (b * unsigned_abs a)
signed_size (pos a) b = ap pos (mul_comm a b)
signed_size (negsuc a) b =
    *ℤ_comm (negsuc a) (neg_ℤ (pos b)) ∙ neg-mul (pos b) (negsuc a) ∙ neg-neg (pos (b * suc a))

pub exact_product-inverse : (x : Fraction) → x.num ≢ pos 0 → exact_product x (inverse x) ≡ one_value
unfolding exact_product
exact_product-inverse x some =
    ap₂ lowest (ap (λ z. x.num *ℤ z) (num-inverse x) ∙ signed_size x.num (den x)) (ap (λ k. den x * k) (den-inverse x some))
    ∙ lowest-one (den x * unsigned_abs x.num) (mul-pos (omega arith) (size_above_zero x.num some))

-- what is divided and multiplied again
pub exact_quotient-product : (x y : Fraction) → IsInLowestTerms x → y.num ≢ pos 0 → exact_product (exact_quotient x y) y ≡ x
exact_quotient-product x y apart some =
    exact_product_assoc x (inverse y) y
    ∙ ap (exact_product x) (exact_product_comm (inverse y) y ∙ exact_product-inverse y some)
    ∙ exact_product-one_right x apart

pub inverse_apart : (x : Fraction) → x.num ≢ pos 0 → IsInLowestTerms x → IsInLowestTerms (inverse x)
inverse_apart x some apart =
    subst (λ k. IsGcd (unsigned_abs (inverse x).num) k 1) (sym (den-inverse x some))
    (subst (λ k. IsGcd k (unsigned_abs x.num) 1) (sym (ap unsigned_abs (num-inverse x) ∙ size-signed (is_below_zero x.num) (den x)))
    (IsGcd-swap (unsigned_abs x.num) (den x) 1 apart))
