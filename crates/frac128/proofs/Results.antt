-- The parts that code forms are those of the exact results.
use Rattle.std.proofs.Common.{◌≡◌, ◌≢◌, refl, sym, ◌∙◌, ap, ap₂, subst, ℕ, zero, suc, ◌*◌, ◌/◌, ◌<◌, Bool, true, false, not, ℤ, pos, negsuc, ◌+ℤ◌, ◌*ℤ◌, neg_ℤ, lt_of_le_of_lt, arith}
use Rattle.std.specs.Prelude.{unsigned_abs}
use Rattle.std.specs.Int.{IsGcd, ◌∣◌}
use Rattle.std.specs.Int.Signed.{lt_z}
use Rattle.std.proofs.Math.Bool.{beq}
use Rattle.std.proofs.Math.Nat.{mul-pos, div-mul_cancel, div-le_self, dvd-mul_left, dvd-mul_right, dvd-mul_left_of_dvd, dvd_trans, one-dvd, mul_comm}
use Rattle.std.proofs.lemmas.Int.{ints, unsigned_abs-mul}
use Rattle.std.proofs.lemmas.Nat.Gcd.{IsGcd-swap}
use Rattle.frac128.specs.Fraction.{Fraction, den, fraction, lowest, quotient, inverse, exact_product, exact_sum}
use Rattle.frac128.specs.Lowest.{IsKept, IsLowest}
use Rattle.frac128.specs.Numbers.{gcd, is_below_zero, limit, signed}
use Rattle.frac128.proofs.Divisors.{gcd-divides, gcd_is, IsGcd-divided, IsGcd-mul, IsGcd-parts, cross_div, div_above_zero, div_dvd, dvd_of_dvd-mul}
use Rattle.frac128.proofs.Integers.{add-mul, dvd_of_dvd-add, lt_z-zero, mul-mul_pos, signed-lt_z, signed-mul, size-mul_pos, size-neg, size-signed, size_above_zero}
use Rattle.frac128.proofs.Seen.{lowest-same, lowest_is}

-- sizes p over q in lowest terms, with the sign of t, are those of t over e
pub lowest_from_sizes : (s : Bool) (p q : ℕ) (t : ℤ) (e : ℕ) → signed s (unsigned_abs t) ≡ t → 0 < q → 0 < e → IsGcd p q 1 → p * e ≡ unsigned_abs t * q → fraction (signed s p) q ≡ lowest t e
lowest_from_sizes s p q t e sign q_some e_some apart sizes =
    lowest_is (signed s p) t q e q_some e_some (subst (λ n. IsGcd n q 1) (sym (size-signed s p)) apart)
    (signed-mul s p e ∙ ap (signed s) sizes ∙ sym (signed-mul s (unsigned_abs t) q) ∙ ap (λ z. z *ℤ pos q) sign)

-- ---- the sign of a product, as code tests it

sign-mul : (a c : ℤ) → signed (not (beq (is_below_zero a) (is_below_zero c))) (unsigned_abs a * unsigned_abs c) ≡ a *ℤ c
sign-mul (pos a) (pos c) = refl
sign-mul (pos a) (negsuc c) = refl
sign-mul (negsuc a) (pos c) = refl
sign-mul (negsuc a) (negsuc c) = refl

pub signed-mul_lt_z : (a c : ℤ) → signed (not (beq (lt_z a (pos 0)) (lt_z c (pos 0)))) (unsigned_abs (a *ℤ c)) ≡ a *ℤ c
signed-mul_lt_z a c =
    ap₂ (λ p q. signed (not (beq p q)) (unsigned_abs (a *ℤ c))) (lt_z-zero a) (lt_z-zero c)
    ∙ ap (λ n. signed (not (beq (is_below_zero a) (is_below_zero c))) n) (unsigned_abs-mul a c) ∙ sign-mul a c

pub IsLowest-reduced : (n d : ℕ) → 0 < d → n / gcd n d < limit → d / gcd n d < limit → IsLowest (pos (n / gcd n d)) (d / gcd n d)
IsLowest-reduced n d some num_fits den_fits = record {
  den_above_zero = div_above_zero d (gcd n d) (gcd-divides n d).1 some;
  nothing_in_common = IsGcd-divided n d (gcd n d) some (gcd-divides n d);
  num_fits = num_fits;
  den_fits = den_fits;
}

-- a number with a sign over d, both without what they have in common
pub reduced-parts : (s : Bool) (n d : ℕ) → 0 < d → fraction (signed s (n / gcd n d)) (d / gcd n d) ≡ lowest (signed s n) d
reduced-parts s n d some =
    let g = gcd n d in
    let divides = gcd-divides n d in
    lowest_from_sizes s (n / g) (d / g) (signed s n) d (ap (signed s) (size-signed s n)) (div_above_zero d g divides.1 some) some
    (IsGcd-divided n d g some divides) (cross_div n d g divides.0 divides.1 ∙ ap (λ k. k * (d / g)) (sym (size-signed s n)))

-- ---- a product of a over b and c over d

pub product_apart : (a c b d : ℕ) → 0 < b → 0 < d → IsGcd a b 1 → IsGcd c d 1 → IsGcd (a / gcd a d * (c / gcd c b)) (b / gcd c b * (d / gcd a d)) 1
product_apart a c b d b_some d_some left right =
    let g = gcd-divides a d in
    let h = gcd-divides c b in
    let a_part = div_dvd a (gcd a d) g.0 in
    let c_part = div_dvd c (gcd c b) h.0 in
    let b_part = div_dvd b (gcd c b) h.1 in
    let d_part = div_dvd d (gcd a d) g.1 in
    let with_b : IsGcd (b / gcd c b) (a / gcd a d * (c / gcd c b)) 1 =
    IsGcd-mul (b / gcd c b) (a / gcd a d) (c / gcd c b)
    (IsGcd-swap _ _ 1 (IsGcd-parts a b (a / gcd a d) (b / gcd c b) a_part b_part left))
    (IsGcd-swap _ _ 1 (IsGcd-divided c b (gcd c b) b_some h)) in
    let with_d : IsGcd (d / gcd a d) (a / gcd a d * (c / gcd c b)) 1 =
    IsGcd-mul (d / gcd a d) (a / gcd a d) (c / gcd c b)
    (IsGcd-swap _ _ 1 (IsGcd-divided a d (gcd a d) d_some g))
    (IsGcd-swap _ _ 1 (IsGcd-parts c d (c / gcd c b) (d / gcd a d) c_part d_part right)) in
    IsGcd-mul (a / gcd a d * (c / gcd c b)) (b / gcd c b) (d / gcd a d) (IsGcd-swap _ _ 1 with_b) (IsGcd-swap _ _ 1 with_d)

pub product_above_zero : (a c b d : ℕ) → 0 < b → 0 < d → 0 < b / gcd c b * (d / gcd a d)
product_above_zero a c b d b_some d_some =
    mul-pos (div_above_zero b (gcd c b) (gcd-divides c b).1 b_some) (div_above_zero d (gcd a d) (gcd-divides a d).1 d_some)

product_sizes : (a c b d : ℕ) → a / gcd a d * (c / gcd c b) * (b * d) ≡ a * c * (b / gcd c b * (d / gcd a d))
product_sizes a c b d =
    let left : a / gcd a d * d ≡ a * (d / gcd a d) = cross_div a d (gcd a d) (gcd-divides a d).0 (gcd-divides a d).1 in
    let right : c / gcd c b * b ≡ c * (b / gcd c b) = cross_div c b (gcd c b) (gcd-divides c b).0 (gcd-divides c b).1 in
    pairs (a / gcd a d) (c / gcd c b) b d ∙ ap₂ (λ m n. m * n) left right ∙ pairs' a c (b / gcd c b) (d / gcd a d)
  where
    pairs : (p q r s : ℕ) → p * q * (r * s) ≡ p * s * (q * r)
    pairs p q r s = omega arith

    pairs' : (p q r s : ℕ) → p * s * (q * r) ≡ p * q * (r * s)
    pairs' p q r s = omega arith

pub product_is_exact : (a c : ℤ) (b d : ℕ) → 0 < b → 0 < d → IsGcd (unsigned_abs a) b 1 → IsGcd (unsigned_abs c) d 1
    → fraction (signed (not (beq (lt_z a (pos 0)) (lt_z c (pos 0)))) (unsigned_abs a / gcd (unsigned_abs a) d * (unsigned_abs c / gcd (unsigned_abs c) b))) (b / gcd (unsigned_abs c) b * (d / gcd (unsigned_abs a) d)) ≡ lowest (a *ℤ c) (b * d)
product_is_exact a c b d b_some d_some left right =
    let m = unsigned_abs a in
    let n = unsigned_abs c in
    lowest_from_sizes (not (beq (lt_z a (pos 0)) (lt_z c (pos 0)))) (m / gcd m d * (n / gcd n b)) (b / gcd n b * (d / gcd m d)) (a *ℤ c) (b * d) (signed-mul_lt_z a c)
    (product_above_zero m n b d b_some d_some) (mul-pos b_some d_some) (product_apart m n b d b_some d_some left right)
    (product_sizes m n b d ∙ ap (λ k. k * (b / gcd n b * (d / gcd m d))) (sym (unsigned_abs-mul a c)))

-- ---- a sum of a over b and c over d

-- what a sum of scaled numerators has in common with one of the scales is 1
scaled_apart : (a c : ℤ) (m n e : ℕ) → IsGcd (unsigned_abs a) n 1 → IsGcd m n 1 → e ∣ unsigned_abs (a *ℤ pos m +ℤ c *ℤ pos n) → IsGcd e n 1
scaled_apart a c m n e apart scales h = (
  one-dvd e,
  one-dvd n,
  λ f p q.
      let part : f ∣ unsigned_abs (c *ℤ pos n) = subst (λ k. f ∣ k) (sym (size-mul_pos c n)) (dvd-mul_left_of_dvd f q (unsigned_abs c)) in
      let other : f ∣ unsigned_abs (a *ℤ pos m) = dvd_of_dvd-add (a *ℤ pos m) (c *ℤ pos n) f (dvd_trans f p h) part in
      let product : f ∣ m * unsigned_abs a = subst (λ k. f ∣ k) (size-mul_pos a m ∙ mul_comm (unsigned_abs a) m) other in
      let with_m : IsGcd f m 1 = (one-dvd f, one-dvd m, λ i r s. scales.2 i s (dvd_trans i r q)) in
      apart.2 f (dvd_of_dvd-mul f m (unsigned_abs a) with_m product) q,
)

pub sum_common : (a c : ℤ) (b d : ℕ) → 0 < b → 0 < d → IsGcd (unsigned_abs a) b 1 → IsGcd (unsigned_abs c) d 1
    → gcd (unsigned_abs (a *ℤ pos (d / gcd b d) +ℤ c *ℤ pos (b / gcd b d))) (b / gcd b d * d) ≡ gcd (unsigned_abs (a *ℤ pos (d / gcd b d) +ℤ c *ℤ pos (b / gcd b d))) (gcd b d)
sum_common a c b d b_some d_some left right =
    let g = gcd b d in
    let divides = gcd-divides b d in
    let m = d / g in
    let n = b / g in
    let t = unsigned_abs (a *ℤ pos m +ℤ c *ℤ pos n) in
    let common = gcd-divides t g in
    let scales : IsGcd n m 1 = IsGcd-divided b d g d_some divides in
    let a_apart : IsGcd (unsigned_abs a) n 1 = IsGcd-parts _ b _ n (dvd_self (unsigned_abs a)) (div_dvd b g divides.0) left in
    let c_apart : IsGcd (unsigned_abs c) m 1 = IsGcd-parts _ d _ m (dvd_self (unsigned_abs c)) (div_dvd d g divides.1) right in
    let whole : m * g ≡ d = div-mul_cancel g divides.1 in
    gcd_is t (n * d) (gcd t g) (
      common.0,
      dvd_trans (gcd t g) common.1 (dvd_trans g divides.1 (dvd-mul_left d n)),
      λ e p q.
          let with_n : IsGcd e n 1 = scaled_apart a c m n e a_apart (IsGcd-swap n m 1 scales) p in
          let with_m : IsGcd e m 1 = scaled_apart c a n m e c_apart scales (subst (λ (z : ℤ). e ∣ unsigned_abs z) (+ℤ_comm (a *ℤ pos m) (c *ℤ pos n)) p) in
          let in_d : e ∣ d = dvd_of_dvd-mul e n d with_n q in
          common.2 e p (dvd_of_dvd-mul e m g with_m (subst (λ k. e ∣ k) (sym whole) in_d)),
    )
  where
    dvd_self : (k : ℕ) → k ∣ k
    dvd_self k = subst (λ i. k ∣ i) (omega arith) (dvd-mul_right k 1)

    +ℤ_comm : (p q : ℤ) → p +ℤ q ≡ q +ℤ p
    +ℤ_comm p q = omega (arith, ints)

pub sum_above_zero : (b d : ℕ) → 0 < b → 0 < d → 0 < b / gcd b d * d
sum_above_zero b d b_some d_some = mul-pos (div_above_zero b (gcd b d) (gcd-divides b d).0 b_some) d_some

-- the sum over the least common denominator has the value of the sum by cross products
sum_cross : (a c : ℤ) (b d : ℕ) → (a *ℤ pos (d / gcd b d) +ℤ c *ℤ pos (b / gcd b d)) *ℤ pos (b * d) ≡ (a *ℤ pos d +ℤ c *ℤ pos b) *ℤ pos (b / gcd b d * d)
sum_cross a c b d =
    let g = gcd b d in
    let m = d / g in
    let n = b / g in
    let crossed : n * d ≡ b * m = cross_div b d g (gcd-divides b d).0 (gcd-divides b d).1 in
    add-mul (a *ℤ pos m) (c *ℤ pos n) (pos (b * d))
    ∙ ap₂ (λ p q. p +ℤ q) (mul-mul_pos a m (b * d)) (mul-mul_pos c n (b * d))
    ∙ ap₂ (λ p q. a *ℤ pos p +ℤ c *ℤ pos q) (shuffle m b d ∙ ap (λ k. k * d) (sym crossed) ∙ mul_comm (n * d) d) (shuffle' n b d)
    ∙ sym (ap₂ (λ p q. p +ℤ q) (mul-mul_pos a d (n * d)) (mul-mul_pos c b (n * d)))
    ∙ sym (add-mul (a *ℤ pos d) (c *ℤ pos b) (pos (n * d)))
  where
    shuffle : (p q r : ℕ) → p * (q * r) ≡ q * p * r
    shuffle p q r = omega arith

    shuffle' : (p q r : ℕ) → p * (q * r) ≡ q * (p * r)
    shuffle' p q r = omega arith

-- the parts of t over e in lowest terms, where u over f has the same value
lowest_of_reduced : (t u : ℤ) (e f k : ℕ) → 0 < e → 0 < f → k ≡ gcd (unsigned_abs t) e → t *ℤ pos f ≡ u *ℤ pos e → fraction (signed (lt_z t (pos 0)) (unsigned_abs t / k)) (e / k) ≡ lowest u f
lowest_of_reduced t u e f k e_some f_some common same =
    let size = unsigned_abs t in
    let g = gcd size e in
    let divides = gcd-divides size e in
    let parts : fraction (signed (lt_z t (pos 0)) (size / g)) (e / g) ≡ lowest t e =
    lowest_from_sizes (lt_z t (pos 0)) (size / g) (e / g) t e (signed-lt_z t) (div_above_zero e g divides.1 e_some) e_some
    (IsGcd-divided size e g e_some divides) (cross_div size e g divides.0 divides.1) in
    ap (λ i. fraction (signed (lt_z t (pos 0)) (size / i)) (e / i)) common ∙ parts ∙ lowest-same t u e f e_some f_some same

pub sum_is_exact : (a c : ℤ) (b d k : ℕ) → 0 < b → 0 < d
    → k ≡ gcd (unsigned_abs (a *ℤ pos (d / gcd b d) +ℤ c *ℤ pos (b / gcd b d))) (b / gcd b d * d)
    → fraction (signed (lt_z (a *ℤ pos (d / gcd b d) +ℤ c *ℤ pos (b / gcd b d)) (pos 0)) (unsigned_abs (a *ℤ pos (d / gcd b d) +ℤ c *ℤ pos (b / gcd b d)) / k)) (b / gcd b d * d / k) ≡ lowest (a *ℤ pos d +ℤ c *ℤ pos b) (b * d)
sum_is_exact a c b d k b_some d_some common =
    let t = a *ℤ pos (d / gcd b d) +ℤ c *ℤ pos (b / gcd b d) in
    let e = b / gcd b d * d in
    let e_some = sum_above_zero b d b_some d_some in
    lowest_of_reduced t (a *ℤ pos d +ℤ c *ℤ pos b) e (b * d) k e_some (mul-pos b_some d_some) common (sum_cross a c b d)

-- ---- of kept fractions

abbrev pub product_size : Fraction → Fraction → ℕ
product_size x y = unsigned_abs x.num / gcd (unsigned_abs x.num) (den y) * (unsigned_abs y.num / gcd (unsigned_abs y.num) (den x))

abbrev pub product_den : Fraction → Fraction → ℕ
product_den x y = den x / gcd (unsigned_abs y.num) (den x) * (den y / gcd (unsigned_abs x.num) (den y))

pub IsLowest-product : (x y : Fraction) → IsKept x → IsKept y → product_size x y < limit → product_den x y < limit → IsLowest (pos (product_size x y)) (product_den x y)
IsLowest-product x y own others size_fits den_fits = record {
  den_above_zero = product_above_zero (unsigned_abs x.num) (unsigned_abs y.num) (den x) (den y) (omega arith) (omega arith);
  nothing_in_common = product_apart (unsigned_abs x.num) (unsigned_abs y.num) (den x) (den y) (omega arith) (omega arith) own.nothing_in_common others.nothing_in_common;
  num_fits = size_fits;
  den_fits = den_fits;
}

pub exact_product-parts : (x y : Fraction) → IsKept x → IsKept y → fraction (signed (not (beq (lt_z x.num (pos 0)) (lt_z y.num (pos 0)))) (product_size x y)) (product_den x y) ≡ exact_product x y
unfolding exact_product
exact_product-parts x y own others = product_is_exact x.num y.num (den x) (den y) (omega arith) (omega arith) own.nothing_in_common others.nothing_in_common

abbrev pub sum_num : Fraction → Fraction → ℤ
sum_num x y = x.num *ℤ pos (den y / gcd (den x) (den y)) +ℤ y.num *ℤ pos (den x / gcd (den x) (den y))

abbrev pub sum_den : Fraction → Fraction → ℕ
sum_den x y = den x / gcd (den x) (den y) * den y

-- what both parts of a sum have in common
abbrev pub sum_divisor : Fraction → Fraction → ℕ
sum_divisor x y = gcd (unsigned_abs (sum_num x y)) (gcd (den x) (den y))

sum_divisor-is : (x y : Fraction) → IsKept x → IsKept y → sum_divisor x y ≡ gcd (unsigned_abs (sum_num x y)) (sum_den x y)
sum_divisor-is x y own others =
    sym (sum_common x.num y.num (den x) (den y) (omega arith) (omega arith) own.nothing_in_common others.nothing_in_common)

pub IsLowest-sum : (x y : Fraction) → IsKept x → IsKept y → unsigned_abs (sum_num x y) < limit → sum_den x y < limit → IsLowest (pos (unsigned_abs (sum_num x y) / sum_divisor x y)) (sum_den x y / sum_divisor x y)
IsLowest-sum x y own others num_fits den_fits =
    let size = unsigned_abs (sum_num x y) in
    let some : 0 < sum_den x y = sum_above_zero (den x) (den y) (omega arith) (omega arith) in
    let low = IsLowest-reduced size (sum_den x y) some (lt_of_le_of_lt (div-le_self size _) num_fits) (lt_of_le_of_lt (div-le_self (sum_den x y) _) den_fits) in
    subst (λ k. IsLowest (pos (size / k)) (sum_den x y / k)) (sym (sum_divisor-is x y own others)) low

pub exact_sum-parts : (x y : Fraction) → IsKept x → IsKept y → fraction (signed (lt_z (sum_num x y) (pos 0)) (unsigned_abs (sum_num x y) / sum_divisor x y)) (sum_den x y / sum_divisor x y) ≡ exact_sum x y
unfolding exact_sum
exact_sum-parts x y own others =
    sum_is_exact x.num y.num (den x) (den y) (sum_divisor x y) (omega arith) (omega arith) (sum_divisor-is x y own others)

-- ---- quotients and inverses

sign-quotient : (n : ℤ) → signed (not (beq (is_below_zero n) false)) (unsigned_abs n) ≡ n
sign-quotient (pos n) = refl
sign-quotient (negsuc n) = refl

sign-turned : (n : ℤ) → signed (not (beq (is_below_zero n) true)) (unsigned_abs (neg_ℤ n)) ≡ neg_ℤ n
sign-turned (pos zero) = refl
sign-turned (pos (suc n)) = refl
sign-turned (negsuc n) = refl

quotient_above_zero : (n d : ℕ) → 0 < d → 0 < d / gcd n d
quotient_above_zero n d some = div_above_zero d (gcd n d) (gcd-divides n d).1 some

pub quotient-parts : (n d : ℤ) → d ≢ pos 0 → fraction (signed (not (beq (lt_z n (pos 0)) (lt_z d (pos 0)))) (unsigned_abs n / gcd (unsigned_abs n) (unsigned_abs d))) (unsigned_abs d / gcd (unsigned_abs n) (unsigned_abs d)) ≡ quotient n d
quotient-parts n (pos zero) some = absurd (some refl)
quotient-parts n (pos (suc d)) some =
    let size = unsigned_abs n in
    let g = gcd size (suc d) in
    let divides = gcd-divides size (suc d) in
    ap₂ (λ p q. fraction (signed (not (beq p q)) (size / g)) (suc d / g)) (lt_z-zero n) (lt_z-zero (pos (suc d)))
    ∙ lowest_from_sizes (not (beq (is_below_zero n) false)) (size / g) (suc d / g) n (suc d) (sign-quotient n) (quotient_above_zero size (suc d) (omega arith)) (omega arith)
    (IsGcd-divided size (suc d) g (omega arith) divides) (cross_div size (suc d) g divides.0 divides.1)
quotient-parts n (negsuc d) some =
    let size = unsigned_abs n in
    let g = gcd size (suc d) in
    let divides = gcd-divides size (suc d) in
    ap₂ (λ p q. fraction (signed (not (beq p q)) (size / g)) (suc d / g)) (lt_z-zero n) (lt_z-zero (negsuc d))
    ∙ lowest_from_sizes (not (beq (is_below_zero n) true)) (size / g) (suc d / g) (neg_ℤ n) (suc d) (sign-turned n) (quotient_above_zero size (suc d) (omega arith)) (omega arith)
    (IsGcd-divided size (suc d) g (omega arith) divides)
    (cross_div size (suc d) g divides.0 divides.1 ∙ ap (λ k. k * (suc d / g)) (sym (size-neg n)))

pub IsLowest-inverse : (x : Fraction) → x.num ≢ pos 0 → IsKept x → IsLowest (pos (den x)) (unsigned_abs x.num)
IsLowest-inverse x some kept = record {
  den_above_zero = size_above_zero x.num some;
  nothing_in_common = IsGcd-swap _ _ 1 kept.nothing_in_common;
  num_fits = kept.den_fits;
  den_fits = kept.num_fits;
}

pub inverse-parts : (x : Fraction) → fraction (signed (lt_z x.num (pos 0)) (den x)) (unsigned_abs x.num) ≡ inverse x
unfolding inverse
inverse-parts x = ap (λ s. fraction (signed s (den x)) (unsigned_abs x.num)) (lt_z-zero x.num)
