-- What operations make of kept fractions is kept, and operations with 0 and products with 1 always fit.
use Rattle.std.proofs.Common.{◌≡◌, ◌≢◌, ◌↔◌, refl, sym, ◌∙◌, ap, ap₂, subst, ℕ, ◌*◌, ◌/◌, ◌<◌, Bool, not, ℤ, pos, ◌+ℤ◌, ◌*ℤ◌, arith}
use Rattle.std.specs.Prelude.{unsigned_abs}
use Rattle.std.specs.Int.{IsGcd}
use Rattle.std.specs.Int.Signed.{lt_z}
use Rattle.std.proofs.Math.Bool.{beq}
use Rattle.std.proofs.Math.Nat.{div-one, div_self, mul_comm, mul-one, one-dvd, zero-div, zero-mul}
use Rattle.std.proofs.lemmas.Int.{ints}
use Rattle.std.proofs.lemmas.Nat.Gcd.{IsGcd-from_zero, IsGcd-swap}
use Rattle.frac128.specs.Fits.{FitsDifference, FitsProduct, FitsQuotient, FitsSum}
use Rattle.frac128.specs.Fraction.{Fraction, den, exact_difference, exact_product, exact_quotient, exact_sum, fraction, inverse, negation, one_value, zero_value}
use Rattle.frac128.specs.Lowest.{IsKept, IsLowest}
use Rattle.frac128.specs.Numbers.{gcd, is_below_zero, limit, signed}
use Rattle.frac128.specs.Parts.{FitsScaledSum}
use Rattle.frac128.proofs.Divisors.{cross_div, gcd-divides, gcd_comm, gcd_is}
use Rattle.frac128.proofs.Field.{apart_of-one, apart_of-zero, den-inverse, inverse_apart, num-inverse}
use Rattle.frac128.proofs.Fitting.{FitsProduct-is, FitsSum-is}
use Rattle.frac128.proofs.Integers.{add_comm, size-neg, size-signed}
use Rattle.frac128.proofs.Results.{IsLowest-product, IsLowest-sum, exact_product-parts, exact_sum-parts, product_den, product_size, sum_den, sum_divisor, sum_num}
use Rattle.frac128.proofs.Seen.{den-fraction}

-- ---- kept results

IsKept-fraction : (s : Bool) (n d : ℕ) → IsLowest (pos n) d → IsKept (fraction (signed s n) d)
IsKept-fraction s n d low =
    let size : unsigned_abs (signed s n) ≡ n = size-signed s n in
    let same : den (fraction (signed s n) d) ≡ d = den-fraction (signed s n) d low.den_above_zero in
    record {
      nothing_in_common = subst (λ k. IsGcd (unsigned_abs (signed s n)) k 1) (sym same) (subst (λ k. IsGcd k d 1) (sym size) low.nothing_in_common);
      num_fits = subst (λ k. k < limit) (sym size) low.num_fits;
      den_fits = subst (λ k. k < limit) (sym same) low.den_fits;
    }

pub IsKept-sum : (x y : Fraction) → IsKept x → IsKept y → FitsSum x y → IsKept (exact_sum x y)
IsKept-sum x y own others fits =
    let parts = (FitsSum-is x y).0 fits in
    subst IsKept (exact_sum-parts x y own others)
    (IsKept-fraction (lt_z (sum_num x y) (pos 0)) (unsigned_abs (sum_num x y) / sum_divisor x y) (sum_den x y / sum_divisor x y) (IsLowest-sum x y own others parts.0.2 parts.1))

pub IsKept-product : (x y : Fraction) → IsKept x → IsKept y → FitsProduct x y → IsKept (exact_product x y)
IsKept-product x y own others fits =
    let parts = (FitsProduct-is x y).0 fits in
    subst IsKept (exact_product-parts x y own others)
    (IsKept-fraction (not (beq (lt_z x.num (pos 0)) (lt_z y.num (pos 0)))) (product_size x y) (product_den x y) (IsLowest-product x y own others parts.0 parts.1))

pub IsKept-negation : (x : Fraction) → IsKept x → IsKept (negation x)
IsKept-negation x kept = record {
  nothing_in_common = subst (λ k. IsGcd k (den x) 1) (sym (size-neg x.num)) kept.nothing_in_common;
  num_fits = subst (λ k. k < limit) (sym (size-neg x.num)) kept.num_fits;
  den_fits = kept.den_fits;
}

pub IsKept-inverse : (x : Fraction) → x.num ≢ pos 0 → IsKept x → IsKept (inverse x)
IsKept-inverse x some kept =
    let size : unsigned_abs (inverse x).num ≡ den x = ap unsigned_abs (num-inverse x) ∙ size-signed (is_below_zero x.num) (den x) in
    record {
      nothing_in_common = inverse_apart x some kept.nothing_in_common;
      num_fits = subst (λ k. k < limit) (sym size) kept.den_fits;
      den_fits = subst (λ k. k < limit) (sym (den-inverse x some)) kept.num_fits;
    }

pub IsKept-difference : (x y : Fraction) → IsKept x → IsKept y → FitsDifference x y → IsKept (exact_difference x y)
IsKept-difference x y own others fits = IsKept-sum x (negation y) own (IsKept-negation y others) fits

pub IsKept-quotient : (x y : Fraction) → y.num ≢ pos 0 → IsKept x → IsKept y → FitsQuotient x y → IsKept (exact_quotient x y)
IsKept-quotient x y some own others fits = IsKept-product x (inverse y) own (IsKept-inverse y some others) fits

pub IsKept-zero : IsKept zero_value
IsKept-zero = record { nothing_in_common = apart_of-zero; num_fits = omega arith; den_fits = omega arith }

pub IsKept-one : IsKept one_value
IsKept-one = record { nothing_in_common = apart_of-one; num_fits = omega arith; den_fits = omega arith }

-- ---- what fits in either order

gcd-one_right : (a : ℕ) → gcd a 1 ≡ 1
gcd-one_right a = gcd_is a 1 1 (one-dvd a, one-dvd 1, λ k p q. q)

gcd-one_left : (b : ℕ) → gcd 1 b ≡ 1
gcd-one_left b = gcd_comm 1 b ∙ gcd-one_right b

gcd-zero_left : (b : ℕ) → gcd 0 b ≡ b
gcd-zero_left b = gcd_is 0 b b (IsGcd-swap b 0 b (IsGcd-from_zero b 0 refl))

FitsScaledSum_comm : (a c : ℤ) (m n : ℕ) → FitsScaledSum a m c n → FitsScaledSum c n a m
FitsScaledSum_comm a c m n h = (h.1, h.0, subst (λ z. unsigned_abs z < limit) (add_comm (a *ℤ pos m) (c *ℤ pos n)) h.2)

sum_den_comm : (x y : Fraction) → sum_den x y ≡ sum_den y x
sum_den_comm x y =
    let divides = gcd-divides (den x) (den y) in
    cross_div (den x) (den y) (gcd (den x) (den y)) divides.0 divides.1
    ∙ mul_comm (den x) (den y / gcd (den x) (den y)) ∙ ap (λ g. den y / g * den x) (gcd_comm (den x) (den y))

pub FitsSum_swap : (x y : Fraction) → FitsSum x y → FitsSum y x
FitsSum_swap x y fits =
    let parts = (FitsSum-is x y).0 fits in
    let turned = FitsScaledSum_comm x.num y.num (den y / gcd (den x) (den y)) (den x / gcd (den x) (den y)) parts.0 in
    (FitsSum-is y x).1 (
      subst (λ g. FitsScaledSum y.num (den x / g) x.num (den y / g)) (gcd_comm (den x) (den y)) turned,
      subst (λ n. n < limit) (sum_den_comm x y) parts.1,
    )

pub FitsSum_comm : (x y : Fraction) → FitsSum x y ↔ FitsSum y x
FitsSum_comm x y = (FitsSum_swap x y, FitsSum_swap y x)

pub FitsProduct_swap : (x y : Fraction) → FitsProduct x y → FitsProduct y x
FitsProduct_swap x y fits =
    let parts = (FitsProduct-is x y).0 fits in
    (FitsProduct-is y x).1 (
      subst (λ n. n < limit) (mul_comm (unsigned_abs x.num / gcd (unsigned_abs x.num) (den y)) (unsigned_abs y.num / gcd (unsigned_abs y.num) (den x))) parts.0,
      subst (λ n. n < limit) (mul_comm (den x / gcd (unsigned_abs y.num) (den x)) (den y / gcd (unsigned_abs x.num) (den y))) parts.1,
    )

pub FitsProduct_comm : (x y : Fraction) → FitsProduct x y ↔ FitsProduct y x
FitsProduct_comm x y = (FitsProduct_swap x y, FitsProduct_swap y x)

-- ---- operations with 0, products with 1

scaled_by_one : (a : ℤ) (b : ℕ) → unsigned_abs a < limit → FitsScaledSum a (1 / 1) (pos 0) (b / 1)
scaled_by_one a b fits =
    let same : a *ℤ pos 1 +ℤ pos 0 *ℤ pos (b / 1) ≡ a = omega (arith, ints) in (
      subst (λ k. k < limit) (sym (mul-one (unsigned_abs a))) fits,
      subst (λ k. k < limit) (sym (zero-mul (b / 1))) (omega arith),
      subst (λ z. unsigned_abs z < limit) (sym same) fits,
    )

pub FitsSum-zero_right : (x : Fraction) → IsKept x → FitsSum x zero_value
FitsSum-zero_right x kept =
    let one = sym (gcd-one_right (den x)) in
    let whole : den x / 1 * 1 ≡ den x = mul-one (den x / 1) ∙ div-one (den x) in
    (FitsSum-is x zero_value).1 (
      subst (λ g. FitsScaledSum x.num (1 / g) (pos 0) (den x / g)) one (scaled_by_one x.num (den x) kept.num_fits),
      subst (λ g. den x / g * 1 < limit) one (subst (λ k. k < limit) (sym whole) kept.den_fits),
    )

pub FitsSum-zero_left : (x : Fraction) → IsKept x → FitsSum zero_value x
FitsSum-zero_left x kept = FitsSum_swap x zero_value (FitsSum-zero_right x kept)

pub FitsDifference-zero_right : (x : Fraction) → IsKept x → FitsDifference x zero_value
FitsDifference-zero_right x kept = FitsSum-zero_right x kept

pub FitsDifference-zero_left : (x : Fraction) → IsKept x → FitsDifference zero_value x
FitsDifference-zero_left x kept = FitsSum-zero_left (negation x) (IsKept-negation x kept)

pub FitsProduct-zero_right : (x : Fraction) → FitsProduct x zero_value
FitsProduct-zero_right x =
    let size : product_size x zero_value ≡ 0 =
    ap (λ n. unsigned_abs x.num / gcd (unsigned_abs x.num) 1 * n) (zero-div (gcd 0 (den x))) ∙ omega arith in
    let bottom : product_den x zero_value ≡ 1 =
    ap₂ (λ g h. den x / g * (1 / h)) (gcd-zero_left (den x)) (gcd-one_right (unsigned_abs x.num))
    ∙ mul-one (den x / den x) ∙ div_self (omega arith) in
    (FitsProduct-is x zero_value).1
    (subst (λ n. n < limit) (sym size) (omega arith), subst (λ n. n < limit) (sym bottom) (omega arith))

pub FitsProduct-zero_left : (x : Fraction) → FitsProduct zero_value x
FitsProduct-zero_left x = FitsProduct_swap x zero_value (FitsProduct-zero_right x)

pub FitsProduct-one_right : (x : Fraction) → IsKept x → FitsProduct x one_value
FitsProduct-one_right x kept =
    let size : product_size x one_value ≡ unsigned_abs x.num =
    ap₂ (λ g h. unsigned_abs x.num / g * (1 / h)) (gcd-one_right (unsigned_abs x.num)) (gcd-one_left (den x))
    ∙ mul-one (unsigned_abs x.num / 1) ∙ div-one (unsigned_abs x.num) in
    let bottom : product_den x one_value ≡ den x =
    ap₂ (λ g h. den x / g * (1 / h)) (gcd-one_left (den x)) (gcd-one_right (unsigned_abs x.num))
    ∙ mul-one (den x / 1) ∙ div-one (den x) in
    (FitsProduct-is x one_value).1
    (subst (λ n. n < limit) (sym size) kept.num_fits, subst (λ n. n < limit) (sym bottom) kept.den_fits)

pub FitsProduct-one_left : (x : Fraction) → IsKept x → FitsProduct one_value x
FitsProduct-one_left x kept = FitsProduct_swap x one_value (FitsProduct-one_right x kept)

pub FitsQuotient-zero_left : (x : Fraction) → FitsQuotient zero_value x
FitsQuotient-zero_left x = FitsProduct-zero_left (inverse x)

inverse-one : inverse one_value ≡ one_value
unfolding inverse
inverse-one = refl

pub FitsQuotient-one_right : (x : Fraction) → IsKept x → FitsQuotient x one_value
FitsQuotient-one_right x kept = subst (FitsProduct x) (sym inverse-one) (FitsProduct-one_right x kept)

pub exact_quotient-one_right : (x : Fraction) → exact_quotient x one_value ≡ exact_product x one_value
exact_quotient-one_right x = ap (exact_product x) inverse-one
