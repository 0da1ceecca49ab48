-- What the fields of a fraction are in the clauses, and when parts in lowest terms are those of a given quotient.
use Rattle.std.proofs.Common.{◌≡◌, refl, sym, ◌∙◌, ap, ap₂, subst, ℕ, zero, suc, ◌+◌, ◌-◌, ◌*◌, ◌/◌, ◌<◌, ◌≤◌, ℤ, pos, negsuc, ◌+ℤ◌, ◌*ℤ◌, neg_ℤ, to_z, of_z, ◌-ℤ◌, lt_trans, lt-suc_self, lt_trans, lt-suc_self, arith}
use Rattle.std.specs.Prelude.{unsigned_abs}
use Rattle.std.specs.Int.{IsGcd, w128}
use Rattle.std.proofs.lemmas.Int.{ints, to_z-of_z, fits_signed_from_abs}
use Rattle.std.proofs.Math.Nat.{le-mul_of_pos_right, mul-pos, mul_comm, eq_of_mul-eq-mul_right}
use Rattle.frac128.specs.Fraction.{Fraction, den, fraction, lowest}
use Rattle.frac128.specs.Lowest.{IsLowest, IsKept}
use Rattle.frac128.specs.Order.{IsCeil, IsFloor}
use Rattle.frac128.specs.Numbers.{gcd, is_below_zero, limit, signed}
use Rattle.frac128.proofs.Divisors.{gcd-divides, IsGcd-divided, cross_div, div_above_zero, same_den, same_num}
use Rattle.frac128.proofs.Integers.{add-mul, neg-mul, size-mul_pos, size-neg, size-signed, signed-size, signed-mul, mul-mul_pos, mul_pos_cancel}

-- the bits of a number below the limit in size, read again
pub same_read : (z : ℤ) → unsigned_abs z < limit → to_z w128 (of_z w128 z) ≡ z
same_read z fits = to_z-of_z w128 z (fits_signed_from_abs w128 z fits)

pub den-fraction : (n : ℤ) (d : ℕ) → 0 < d → den (fraction n d) ≡ d
den-fraction n d some = omega arith

pub fraction-eta : (x : Fraction) → fraction x.num (den x) ≡ x
fraction-eta x = let e : suc x.below - 1 ≡ x.below = omega arith in ap (λ (b : ℕ). let y : Fraction = record { num = x.num; below = b } in y) e

-- num n and denominator d of a kept fraction x
pub record Seen (x : Fraction) (n : ℤ) (d : ℕ) : Type 0 where
  pub num_is : n ≡ x.num
  pub num : to_z w128 (of_z w128 n) ≡ x.num
  pub den : d ≡ den x
  pub kept : IsKept x

pub seen : (x : Fraction) (n : ℤ) (d : ℕ) → fraction n d ≡ x → IsLowest n d → Seen x n d
seen x n d e low =
    let num_is : n ≡ x.num = ap (λ (y : Fraction). y.num) e in
    let den_is : d ≡ den x = sym (den-fraction n d low.den_above_zero) ∙ ap (λ (y : Fraction). den y) e in
    record {
      num_is = num_is;
      num = same_read n low.num_fits ∙ num_is;
      den = den_is;
      kept = record {
        nothing_in_common = rw (num_is, den_is) at low.nothing_in_common;
        num_fits = rw num_is at low.num_fits;
        den_fits = rw den_is at low.den_fits;
      };
    }

-- one sign, where the products by numbers above 0 agree
same_sign : (n t : ℤ) (d e : ℕ) → 0 < d → 0 < e → n *ℤ pos e ≡ t *ℤ pos d → is_below_zero n ≡ is_below_zero t
same_sign (pos n) (pos t) d e p q h = refl
same_sign (negsuc n) (negsuc t) d e p q h = refl
same_sign (pos n) (negsuc t) d e p q h =
    let above : 0 < suc t * d = mul-pos (omega arith) p in absurd (omega (arith, ints, h))
same_sign (negsuc n) (pos t) d e p q h =
    let above : 0 < suc n * e = mul-pos (omega arith) q in absurd (omega (arith, ints, h))

-- n over d, in lowest terms and with the value of t over e, is that quotient in lowest terms
pub lowest_is : (n t : ℤ) (d e : ℕ) → 0 < d → 0 < e → IsGcd (unsigned_abs n) d 1 → n *ℤ pos e ≡ t *ℤ pos d → fraction n d ≡ lowest t e
unfolding lowest
lowest_is n t d e p q apart h =
    let g = gcd (unsigned_abs t) e in
    let divides = gcd-divides (unsigned_abs t) e in
    let sizes : unsigned_abs n * e ≡ unsigned_abs t * d = sym (size-mul_pos n e) ∙ ap unsigned_abs h ∙ size-mul_pos t d in
    let reduced = IsGcd-divided (unsigned_abs t) e g q divides in
    let crossed : unsigned_abs t / g * e ≡ unsigned_abs t * (e / g) = cross_div (unsigned_abs t) e g divides.0 divides.1 in
    let scaled : (unsigned_abs n * (e / g)) * e ≡ (unsigned_abs t / g * d) * e =
    omega arith ∙ ap (λ k. k * (e / g)) sizes ∙ omega arith ∙ ap (λ k. k * d) (sym crossed) ∙ omega arith in
    let cross : unsigned_abs n * (e / g) ≡ unsigned_abs t / g * d = eq_of_mul-eq-mul_right e q _ _ scaled in
    let nums = same_num (unsigned_abs n) d (unsigned_abs t / g) (e / g) p apart reduced cross in
    let dens = same_den (unsigned_abs n) d (unsigned_abs t / g) (e / g) apart reduced cross in
    ap₂ fraction (sym (signed-size n) ∙ ap₂ signed (same_sign n t d e p q h) nums) dens

-- the numerator in lowest terms
abbrev pub low_num : ℤ → ℕ → ℤ
low_num n d = signed (is_below_zero n) (unsigned_abs n / gcd (unsigned_abs n) d)

abbrev pub low_den : ℤ → ℕ → ℕ
low_den n d = d / gcd (unsigned_abs n) d

pub low_cross : (n : ℤ) (d : ℕ) → low_num n d *ℤ pos d ≡ n *ℤ pos (low_den n d)
low_cross n d =
    let size = unsigned_abs n in
    let divides = gcd-divides size d in
    signed-mul (is_below_zero n) (size / gcd size d) d
    ∙ ap (signed (is_below_zero n)) (cross_div size d (gcd size d) divides.0 divides.1)
    ∙ sym (signed-mul (is_below_zero n) size (low_den n d)) ∙ ap (λ z. z *ℤ pos (low_den n d)) (signed-size n)

pub low_den_above_zero : (n : ℤ) (d : ℕ) → 0 < d → 0 < low_den n d
low_den_above_zero n d some = div_above_zero d _ (gcd-divides (unsigned_abs n) d).1 some

pub low_apart : (n : ℤ) (d : ℕ) → 0 < d → IsGcd (unsigned_abs (low_num n d)) (low_den n d) 1
low_apart n d some =
    let size = unsigned_abs n in
    subst (λ k. IsGcd k (low_den n d) 1) (sym (size-signed (is_below_zero n) (size / gcd size d)))
    (IsGcd-divided size d (gcd size d) some (gcd-divides size d))

-- two factors by naturals in the other order
swap_pos : (z : ℤ) (m n : ℕ) → z *ℤ pos m *ℤ pos n ≡ z *ℤ pos n *ℤ pos m
swap_pos z m n = mul-mul_pos z m n ∙ ap (λ k. z *ℤ pos k) (mul_comm m n) ∙ sym (mul-mul_pos z n m)

-- equal values have equal lowest terms
pub lowest-same : (n t : ℤ) (d e : ℕ) → 0 < d → 0 < e → n *ℤ pos e ≡ t *ℤ pos d → lowest n d ≡ lowest t e
unfolding lowest
lowest-same n t d e p q h =
    let l = low_num n d in
    let m = low_den n d in
    let scaled : l *ℤ pos e *ℤ pos d ≡ t *ℤ pos m *ℤ pos d =
    swap_pos l e d ∙ ap (λ z. z *ℤ pos e) (low_cross n d) ∙ swap_pos n m e ∙ ap (λ z. z *ℤ pos m) h ∙ swap_pos t d m in
    lowest_is l t m e (low_den_above_zero n d p) q (low_apart n d p) (mul_pos_cancel (l *ℤ pos e) (t *ℤ pos m) d p scaled)

-- the same parts with the sign turned
pub IsLowest-neg : (n : ℤ) (d : ℕ) → IsLowest n d → IsLowest (to_z w128 (of_z w128 (pos 0 -ℤ to_z w128 (of_z w128 n)))) d
IsLowest-neg n d low =
    let own : to_z w128 (of_z w128 n) ≡ n = same_read n low.num_fits in
    let size : unsigned_abs (neg_ℤ n) ≡ unsigned_abs n = size-neg n in
    let turned : pos 0 -ℤ to_z w128 (of_z w128 n) ≡ neg_ℤ n = omega (arith, ints, own) in
    let read : to_z w128 (of_z w128 (neg_ℤ n)) ≡ neg_ℤ n = same_read (neg_ℤ n) (subst (λ (k : ℕ). k < limit) (sym size) low.num_fits) in
    let whole : to_z w128 (of_z w128 (pos 0 -ℤ to_z w128 (of_z w128 n))) ≡ neg_ℤ n = ap (λ (z : ℤ). to_z w128 (of_z w128 z)) turned ∙ read in
    subst (λ (z : ℤ). IsLowest z d) (sym whole) record {
      den_above_zero = low.den_above_zero;
      nothing_in_common = subst (λ (k : ℕ). IsGcd k d 1) (sym size) low.nothing_in_common;
      num_fits = subst (λ (k : ℕ). k < limit) (sym size) low.num_fits;
      den_fits = low.den_fits;
    }

-- a number of the size of one that is in lowest terms over d
pub IsLowest-sized : (z : ℤ) (n d : ℕ) → unsigned_abs z ≡ n → IsLowest (pos n) d → IsLowest (to_z w128 (of_z w128 z)) d
IsLowest-sized z n d size low =
    let fits : unsigned_abs z < limit = subst (λ (k : ℕ). k < limit) (sym size) low.num_fits in
    subst (λ (v : ℤ). IsLowest v d) (sym (same_read z fits)) record {
      den_above_zero = low.den_above_zero;
      nothing_in_common = subst (λ (k : ℕ). IsGcd k d 1) (sym size) low.nothing_in_common;
      num_fits = fits;
      den_fits = low.den_fits;
    }

-- ---- the whole numbers next to a fraction

next_times : (w : ℤ) (d : ℕ) → (w +ℤ pos 1) *ℤ pos d ≡ w *ℤ pos d +ℤ pos d
next_times w d = add-mul w (pos 1) (pos d) ∙ ap (λ (n : ℕ). w *ℤ pos d +ℤ pos n) (omega arith)

last_times : (w : ℤ) (d : ℕ) → (w -ℤ pos 1) *ℤ pos d ≡ w *ℤ pos d -ℤ pos d
last_times w d = add-mul w (negsuc 0) (pos d) ∙ ap (λ (z : ℤ). w *ℤ pos d +ℤ z) (neg-mul (pos 1) (pos d) ∙ ap (λ (n : ℕ). neg_ℤ (pos n)) (omega arith))

pub IsFloor-parts : (x : Fraction) (w : ℤ) (r : ℕ) → w *ℤ pos (den x) +ℤ pos r ≡ x.num → r < den x → unsigned_abs w < limit → IsFloor x (to_z w128 (of_z w128 w))
IsFloor-parts x w r parts rest fits =
    subst (λ (z : ℤ). IsFloor x z) (sym (same_read w fits)) record {
      at_most = omega (arith, ints, parts);
      next_above = let next = next_times w (den x) in omega (arith, ints, parts, next);
    }

pub IsCeil-whole : (x : Fraction) (w : ℤ) (r : ℕ) → w *ℤ pos (den x) +ℤ pos r ≡ x.num → r ≡ 0 → unsigned_abs w < limit → IsCeil x (to_z w128 (of_z w128 w))
IsCeil-whole x w r parts none fits =
    subst (λ (z : ℤ). IsCeil x z) (sym (same_read w fits)) record {
      at_least = omega (arith, ints, parts);
      last_below = let last = last_times w (den x) in omega (arith, ints, parts, last);
    }

next_fits : (w n : ℤ) (r d : ℕ) → w *ℤ pos (suc d) +ℤ pos r ≡ n → 0 < r → unsigned_abs w < limit → unsigned_abs n < limit → unsigned_abs (w +ℤ pos 1) < limit
next_fits (pos w) (pos n) r d parts some w_fits n_fits =
    let same : w * suc d + r ≡ n = omega (arith, ints, parts) in
    let room : w ≤ w * suc d = le-mul_of_pos_right {m = suc d} w (omega arith) in
    omega arith
next_fits (pos w) (negsuc n) r d parts some w_fits n_fits = absurd (omega (arith, ints, parts))
next_fits (negsuc zero) n r d parts some w_fits n_fits = omega arith
next_fits (negsuc (suc w)) n r d parts some w_fits n_fits =
    let below : suc (suc w) < limit = w_fits in
    let size : unsigned_abs (negsuc (suc w) +ℤ pos 1) ≡ suc w = size-next w in
    subst (λ (k : ℕ). k < limit) (sym size) (lt_trans (lt-suc_self (suc w)) below)
  where
    size-next : (k : ℕ) → unsigned_abs (negsuc (suc k) +ℤ pos 1) ≡ suc k
    size-next k = let up_one : negsuc (suc k) +ℤ pos 1 ≡ negsuc k = omega (arith, ints) in ap unsigned_abs up_one

pub IsCeil-next : (x : Fraction) (w : ℤ) (r : ℕ) → w *ℤ pos (den x) +ℤ pos r ≡ x.num → 0 < r → r < den x → unsigned_abs w < limit → unsigned_abs x.num < limit → IsCeil x (to_z w128 (of_z w128 (to_z w128 (of_z w128 w) +ℤ pos 1)))
IsCeil-next x w r parts some rest w_fits x_fits =
    let fits = next_fits w x.num r x.below parts some w_fits x_fits in
    let read : to_z w128 (of_z w128 (to_z w128 (of_z w128 w) +ℤ pos 1)) ≡ w +ℤ pos 1 =
    ap (λ (z : ℤ). to_z w128 (of_z w128 (z +ℤ pos 1))) (same_read w w_fits) ∙ same_read (w +ℤ pos 1) fits in
    subst (λ (z : ℤ). IsCeil x z) (sym read) record {
      at_least = let next = next_times w (den x) in omega (arith, ints, parts, next);
      last_below = let same : w +ℤ pos 1 -ℤ pos 1 ≡ w = omega (arith, ints) in rw same (omega (arith, ints, parts));
    }
