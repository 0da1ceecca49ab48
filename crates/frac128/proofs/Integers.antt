-- Signed numbers: their products and sizes.
use Rattle.std.proofs.Common.{◌≡◌, ◌≢◌, refl, sym, ◌∙◌, ap, ap₂, subst, ℕ, zero, suc, ◌+◌, ◌*◌, ◌/◌, ◌<◌, ◌≤◌, Bool, true, false, ℤ, pos, negsuc, ◌+ℤ◌, ◌*ℤ◌, neg_ℤ, arith}
use Rattle.std.specs.Prelude.{unsigned_abs, ◌<ℤ◌, ◌≤ℤ◌}
use Rattle.std.proofs.Math.Nat.{mul-le-mul_right, mul-lt-mul_of_pos_right, eq_of_mul-eq-mul_right, dvd-mul_left, div-mul_cancel}
use Rattle.std.proofs.lemmas.Int.{by_lt_z, ints, unsigned_abs-mul}
use borrow.Author.Differences.{up, down, same_in, product_is, sum_is_lem, neg_is}
use Rattle.std.specs.Int.{◌∣◌}
use Rattle.std.proofs.lemmas.Bool.Decides.{nat_tests}
use Rattle.std.specs.Int.Signed.{lt_z}
use Rattle.frac128.specs.Numbers.{is_below_zero, signed}

pub *ℤ_comm : (a b : ℤ) → a *ℤ b ≡ b *ℤ a
*ℤ_comm a b = same_in _ _ (omega (arith, product_is a b, product_is b a))

pub *ℤ_assoc : (a b c : ℤ) → a *ℤ b *ℤ c ≡ a *ℤ (b *ℤ c)
*ℤ_assoc a b c =
    let p = product_is (a *ℤ b) c in
    let q = product_is a b in
    let r = product_is a (b *ℤ c) in
    let s = product_is b c in
    same_in _ _ (rw (p.0, p.1, r.0, r.1, q.0, q.1, s.0, s.1) (omega arith))

pub add-mul : (a b c : ℤ) → (a +ℤ b) *ℤ c ≡ a *ℤ c +ℤ b *ℤ c
add-mul a b c =
    let by_up = ap (λ k. k * up c) (sum_is_lem a b) in
    let by_down = ap (λ k. k * down c) (sum_is_lem a b) in
    same_in _ _ (omega (arith, product_is, sum_is_lem))

pub mul-mul_pos : (z : ℤ) (m n : ℕ) → z *ℤ pos m *ℤ pos n ≡ z *ℤ pos (m * n)
mul-mul_pos z m n = *ℤ_assoc z (pos m) (pos n)

pub neg-mul : (a b : ℤ) → neg_ℤ a *ℤ b ≡ neg_ℤ (a *ℤ b)
neg-mul a b =
    let p = product_is (neg_ℤ a) b in
    let q = product_is a b in
    let r = neg_is a in
    let s = neg_is (a *ℤ b) in
    same_in _ _ (rw (p.0, p.1, s.0, s.1, q.0, q.1, r.0, r.1) (omega arith))

-- a factor above 0 may be left out of an equation
pub mul_pos_cancel : (a b : ℤ) (n : ℕ) → 0 < n → a *ℤ pos n ≡ b *ℤ pos n → a ≡ b
mul_pos_cancel a b n some e =
    let p = product_is a (pos n) in
    let q = product_is b (pos n) in
    let ups : up a * n + down b * n ≡ up b * n + down a * n = omega (arith, ap up e, ap down e, p.0, p.1, q.0, q.1) in
    same_in a b (eq_of_mul-eq-mul_right n some _ _ (mul_sum (up a) (down b) n ∙ ups ∙ sym (mul_sum (up b) (down a) n)))
  where
    mul_sum : (x y k : ℕ) → (x + y) * k ≡ x * k + y * k
    mul_sum x y k = omega arith

pub signed-size : (z : ℤ) → signed (is_below_zero z) (unsigned_abs z) ≡ z
signed-size (pos n) = refl
signed-size (negsuc n) = refl

pub size-signed : (b : Bool) (n : ℕ) → unsigned_abs (signed b n) ≡ n
size-signed true zero = refl
size-signed true (suc n) = refl
size-signed false n = refl

pub size-mul_pos : (z : ℤ) (n : ℕ) → unsigned_abs (z *ℤ pos n) ≡ unsigned_abs z * n
size-mul_pos z n = unsigned_abs-mul z (pos n)

pub size-neg : (z : ℤ) → unsigned_abs (neg_ℤ z) ≡ unsigned_abs z
size-neg (pos zero) = refl
size-neg (pos (suc n)) = refl
size-neg (negsuc n) = refl

pub signed-mul : (b : Bool) (n m : ℕ) → signed b n *ℤ pos m ≡ signed b (n * m)
signed-mul true n m = neg-mul (pos n) (pos m)
signed-mul false n m = refl

pub lt_z-zero : (z : ℤ) → lt_z z (pos 0) ≡ is_below_zero z
lt_z-zero (pos n) = grind (arith, nat_tests)
lt_z-zero (negsuc n) = refl

-- a number from its sign, as code tests it, and its size
pub signed-lt_z : (z : ℤ) → signed (lt_z z (pos 0)) (unsigned_abs z) ≡ z
signed-lt_z z = ap (λ b. signed b (unsigned_abs z)) (lt_z-zero z) ∙ signed-size z

pub dvd_of_dvd-add : (x y : ℤ) (d : ℕ) → d ∣ unsigned_abs (x +ℤ y) → d ∣ unsigned_abs y → d ∣ unsigned_abs x
dvd_of_dvd-add x y d whole part =
    let s = signed (is_below_zero (x +ℤ y)) (unsigned_abs (x +ℤ y) / d) in
    let t = signed (is_below_zero y) (unsigned_abs y / d) in
    let differ : x ≡ (s +ℤ neg_ℤ t) *ℤ pos d =
    cancelled ∙ ap₂ (λ p q. p +ℤ neg_ℤ q) (multiple (x +ℤ y) d whole) (multiple y d part)
    ∙ ap (λ q. s *ℤ pos d +ℤ q) (sym (neg-mul t (pos d))) ∙ sym (add-mul s (neg_ℤ t) (pos d)) in
    subst (λ n. d ∣ n) (sym (ap unsigned_abs differ ∙ size-mul_pos (s +ℤ neg_ℤ t) d)) (dvd-mul_left d (unsigned_abs (s +ℤ neg_ℤ t)))
  where
    cancelled : x ≡ (x +ℤ y) +ℤ neg_ℤ y
    cancelled = omega (arith, ints)

    multiple : (z : ℤ) (k : ℕ) → k ∣ unsigned_abs z → z ≡ signed (is_below_zero z) (unsigned_abs z / k) *ℤ pos k
    multiple z k h = sym (signed-mul (is_below_zero z) (unsigned_abs z / k) k ∙ ap (λ n. signed (is_below_zero z) n) (div-mul_cancel k h) ∙ signed-size z)

pub size_above_zero : (z : ℤ) → z ≢ pos 0 → 0 < unsigned_abs z
size_above_zero (pos zero) some = absurd (some refl)
size_above_zero (pos (suc n)) some = omega arith
size_above_zero (negsuc n) some = omega arith

pub add_comm : (a b : ℤ) → a +ℤ b ≡ b +ℤ a
add_comm a b = omega (arith, ints)

-- the factors of four in another order
pub mul-mul_comm : (a b c d : ℤ) → a *ℤ b *ℤ (c *ℤ d) ≡ a *ℤ c *ℤ (b *ℤ d)
mul-mul_comm a b c d =
    *ℤ_assoc a b (c *ℤ d) ∙ ap (λ z. a *ℤ z) (sym (*ℤ_assoc b c d) ∙ ap (λ z. z *ℤ d) (*ℤ_comm b c) ∙ *ℤ_assoc c b d) ∙ sym (*ℤ_assoc a c (b *ℤ d))

-- a natural factor goes past another factor
pub mul_pos-mul : (a b : ℤ) (n : ℕ) → a *ℤ pos n *ℤ b ≡ a *ℤ b *ℤ pos n
mul_pos-mul a b n = *ℤ_assoc a (pos n) b ∙ ap (λ z. a *ℤ z) (*ℤ_comm (pos n) b) ∙ sym (*ℤ_assoc a b (pos n))

pub neg-add : (a b : ℤ) → neg_ℤ (a +ℤ b) ≡ neg_ℤ a +ℤ neg_ℤ b
neg-add a b = omega (arith, ints)

pub neg-neg : (a : ℤ) → neg_ℤ (neg_ℤ a) ≡ a
neg-neg a = omega (arith, ints)

-- ---- the order of products by a natural number

pub le-mul_pos : (a b : ℤ) (n : ℕ) → a ≤ℤ b → (a *ℤ pos n) ≤ℤ (b *ℤ pos n)
le-mul_pos a b n h =
    let p = product_is a (pos n) in
    let q = product_is b (pos n) in
    let scaled : (up a + down b) * n ≤ (up b + down a) * n = mul-le-mul_right n (omega (arith, ints, h)) in
    let spread : up a * n + down b * n ≤ up b * n + down a * n = omega arith in
    omega (arith, ints)

pub lt-mul_pos : (a b : ℤ) (n : ℕ) → 0 < n → a <ℤ b → (a *ℤ pos n) <ℤ (b *ℤ pos n)
lt-mul_pos a b n some h =
    let p = product_is a (pos n) in
    let q = product_is b (pos n) in
    let scaled : (up a + down b) * n < (up b + down a) * n = mul-lt-mul_of_pos_right {k = n} (omega (arith, ints, h)) some in
    let spread : up a * n + down b * n < up b * n + down a * n = omega arith in
    omega (arith, ints)

pub le_of_lt_not : (a b : ℤ) → (b <ℤ a → ⊥) → a ≤ℤ b
le_of_lt_not a b h = by_lt_z b a (λ less. absurd (h less)) (λ most. most)

pub lt_of_le_not : (a b : ℤ) → (b ≤ℤ a → ⊥) → a <ℤ b
lt_of_le_not a b h = by_lt_z a b (λ less. less) (λ most. absurd (h most))

pub le_of_mul_pos : (a b : ℤ) (n : ℕ) → 0 < n → (a *ℤ pos n) ≤ℤ (b *ℤ pos n) → a ≤ℤ b
le_of_mul_pos a b n some h = le_of_lt_not a b (λ less. let more = lt-mul_pos b a n some less in absurd (omega (arith, ints, h, more)))

pub lt_of_mul_pos : (a b : ℤ) (n : ℕ) → (a *ℤ pos n) <ℤ (b *ℤ pos n) → a <ℤ b
lt_of_mul_pos a b n h = lt_of_le_not a b (λ most. let more = le-mul_pos b a n most in absurd (omega (arith, ints, h, more)))
