-- Greatest common divisors: the function of the definitions, and numbers that have nothing in common.
use Rattle.std.proofs.Common.{◌≡◌, refl, sym, ◌∙◌, ap, ap₂, subst, ◌⊎◌, inl, inr, ⊎_elim, ℕ, zero, suc, ◌+◌, ◌*◌, ◌/◌, ◌%◌, ◌^◌, ◌-◌, ◌<◌, ◌≤◌, max, min, lt_of_le_of_lt, Bool, true, false, eqb, arith}
use Rattle.std.proofs.Math.Nat.{mul_comm, mul_assoc, le_of_dvd, mod-eq_of_lt, div-div-eq-div-mul, dvd-mod_iff, pow-suc, mod-lt, div-add-mod', mul-lt-mul_of_pos_right, zero-mul, one-mul, mul-one, dvd-zero, dvd_trans, dvd_antisymm, dvd-mul_left, dvd-mul_right, one-dvd, div-mul_cancel, eq_of_mul-eq-mul_right, dvd_of_mul-dvd-mul_right, mul-dvd-mul_right, pos_of_dvd_of_pos}
use Rattle.std.proofs.lemmas.Bool.{cases_lt, eqb-true, eqb-false}
use Rattle.std.proofs.lemmas.Nat.{mod-mul-add, pow-add, pow_pos}
use Rattle.std.proofs.lemmas.Nat.Bits.{bit_at-trailing_zeros}
use Rattle.std.proofs.lemmas.Nat.Gcd.{dvd_refl, IsGcd-from_sub, IsGcd-from_zero, IsGcd-from_mod, IsGcd-swap, same_from_IsGcd}
use Rattle.std.specs.Int.{IsGcd, abs_diff, Width, trailing_zeros, ◌∣◌}
use mir.Val.{bits}
use Rattle.frac128.specs.Numbers.{gcd, gcd_within}

mod-scaled : (a b c : ℕ) → 0 < b → 0 < c → (a * c) % (b * c) ≡ a % b * c
mod-scaled a b c some positive =
    let small : a % b * c < b * c = mul-lt-mul_of_pos_right (mod-lt a some) positive in
    let parts : a * c ≡ a / b * (b * c) + a % b * c = ap (λ n. n * c) (sym (div-add-mod' a b)) ∙ omega arith in
    ap (λ n. n % (b * c)) parts ∙ mod-mul-add (a / b) (b * c) (a % b * c) small

-- one step of Euclid's algorithm, on both numbers scaled
step : (n a b c : ℕ) (t : Bool) → eqb b 0 ≡ t → b ≤ suc n → 0 < c
    → ((x y : ℕ) → y ≤ n → IsGcd (x * c) (y * c) (gcd_within n x y * c))
    → IsGcd (a * c) (b * c) (elim t [ true ↦ a | false ↦ gcd_within n b (a % b) ] * c)
step n a b c true e bound positive more =
    let b_zero : b ≡ 0 = eqb-true b 0 e in IsGcd-from_zero (a * c) (b * c) (ap (λ m. m * c) b_zero ∙ zero-mul c)
step n a b c false e bound positive more =
    let some : 0 < b = omega (arith, eqb-false b 0 e) in
    let less : a % b < b = mod-lt a some in
    let rest = more b (a % b) (omega arith) in
    let moved = mod-scaled a b c some positive in
    IsGcd-from_mod (a * c) (b * c) _ (subst (λ r. IsGcd (b * c) r (gcd_within n b (a % b) * c)) (sym moved) rest)

gcd_within-scaled : (n a b c : ℕ) → b ≤ n → 0 < c → IsGcd (a * c) (b * c) (gcd_within n a b * c)
unfolding gcd_within
gcd_within-scaled zero a b c bound positive =
    let b_zero : b ≡ 0 = omega arith in IsGcd-from_zero (a * c) (b * c) (ap (λ m. m * c) b_zero ∙ zero-mul c)
gcd_within-scaled (suc n) a b c bound positive =
    step n a b c (eqb b 0) refl bound positive (λ x y le. gcd_within-scaled n x y c le positive)

pub gcd-scaled : (a b c : ℕ) → 0 < c → IsGcd (a * c) (b * c) (gcd a b * c)
unfolding gcd
gcd-scaled a b c positive = gcd_within-scaled b a b c (omega arith) positive

at_one : (a b g : ℕ) → IsGcd (a * 1) (b * 1) (g * 1) → IsGcd a b g
at_one a b g h = subst (λ n. IsGcd n b g) (mul-one a) (subst (λ n. IsGcd (a * 1) n g) (mul-one b) (subst (λ n. IsGcd (a * 1) (b * 1) n) (mul-one g) h))

pub gcd-divides : (a b : ℕ) → IsGcd a b (gcd a b)
gcd-divides a b = at_one a b (gcd a b) (gcd-scaled a b 1 (omega arith))

pub gcd_is : (a b g : ℕ) → IsGcd a b g → gcd a b ≡ g
gcd_is a b g h = same_from_IsGcd a b (gcd a b) g (gcd-divides a b) h

pub gcd_comm : (a b : ℕ) → gcd a b ≡ gcd b a
gcd_comm a b = gcd_is a b (gcd b a) (IsGcd-swap b a _ (gcd-divides b a))

-- the greatest common divisor of scaled numbers
pub IsGcd-scaled : (a b g c : ℕ) → 0 < c → IsGcd a b g → IsGcd (a * c) (b * c) (g * c)
IsGcd-scaled a b g c positive h = subst (λ k. IsGcd (a * c) (b * c) (k * c)) (gcd_is a b g h) (gcd-scaled a b c positive)

-- what divides a product and has nothing in common with one factor divides the other
pub dvd_of_dvd-mul : (d b c : ℕ) → IsGcd d b 1 → d ∣ b * c → d ∣ c
dvd_of_dvd-mul d b zero apart h = dvd-zero d
dvd_of_dvd-mul d b (suc c) apart h =
    let scaled = IsGcd-scaled d b 1 (suc c) (omega arith) apart in
    subst (λ n. d ∣ n) (one-mul (suc c)) (scaled.2 d (dvd-mul_right d (suc c)) h)

-- a number with nothing in common with b and c has nothing in common with their product
pub IsGcd-mul : (a b c : ℕ) → IsGcd a b 1 → IsGcd a c 1 → IsGcd a (b * c) 1
IsGcd-mul a b c with_b with_c = (
  one-dvd a,
  one-dvd (b * c),
  λ d p q.
      let apart : IsGcd d b 1 = (one-dvd d, one-dvd b, λ e r s. with_b.2 e (dvd_trans e r p) s) in
      with_c.2 d p (dvd_of_dvd-mul d b c apart q),
)

-- parts of numbers with nothing in common have nothing in common
pub IsGcd-parts : (a b c d : ℕ) → c ∣ a → d ∣ b → IsGcd a b 1 → IsGcd c d 1
IsGcd-parts a b c d left right apart =
    (one-dvd c, one-dvd d, λ e p q. apart.2 e (dvd_trans e p left) (dvd_trans e q right))

pub gcd_above_zero : (a b g : ℕ) → IsGcd a b g → 0 < b → 0 < g
gcd_above_zero a b g h some = pos_of_dvd_of_pos h.1 some

pub gcd-above_zero : (a b : ℕ) → 0 < b → 0 < gcd a b
gcd-above_zero a b some = gcd_above_zero a b (gcd a b) (gcd-divides a b) some

pub div_above_zero : (b g : ℕ) → g ∣ b → 0 < b → 0 < b / g
div_above_zero b g h some =
    let whole : b / g * g ≡ b = div-mul_cancel g h in
    ⊎_elim (λ e. absurd (omega (arith, ap (λ q. q * g) e))) (λ above. above) (above_zero (b / g))
  where
    above_zero : (n : ℕ) → (n ≡ 0) ⊎ (0 < n)
    above_zero zero = inl refl
    above_zero (suc n) = inr (omega arith)

pub div_dvd : (b g : ℕ) → g ∣ b → b / g ∣ b
div_dvd b g h = subst (λ n. b / g ∣ n) (div-mul_cancel g h) (dvd-mul_right (b / g) g)

-- both numbers without their greatest common divisor
pub IsGcd-divided : (a b g : ℕ) → 0 < b → IsGcd a b g → IsGcd (a / g) (b / g) 1
IsGcd-divided a b g some h =
    let above = gcd_above_zero a b g h some in (
      one-dvd (a / g),
      one-dvd (b / g),
      λ d p q.
          let left : d * g ∣ a = subst (λ n. d * g ∣ n) (div-mul_cancel g h.0) (mul-dvd-mul_right d p g) in
          let right : d * g ∣ b = subst (λ n. d * g ∣ n) (div-mul_cancel g h.1) (mul-dvd-mul_right d q g) in
          dvd_of_mul-dvd-mul_right d {n = 1} above (subst (λ n. d * g ∣ n) (sym (one-mul g)) (h.2 (d * g) left right)),
    )

-- the quotients by a common divisor keep the ratio
pub cross_div : (a b g : ℕ) → g ∣ a → g ∣ b → a / g * b ≡ a * (b / g)
cross_div a b g left right =
    ap (λ n. a / g * n) (sym (div-mul_cancel g right)) ∙ omega arith ∙ ap (λ n. n * (b / g)) (div-mul_cancel g left)

-- equal quotients in lowest terms have equal parts
pub same_den : (a b c d : ℕ) → IsGcd a b 1 → IsGcd c d 1 → a * d ≡ c * b → b ≡ d
same_den a b c d left right e =
    dvd_antisymm
    (dvd_of_dvd-mul b a d (IsGcd-swap a b 1 left) (subst (λ n. b ∣ n) (sym e) (dvd-mul_left b c)))
    (dvd_of_dvd-mul d c b (IsGcd-swap c d 1 right) (subst (λ n. d ∣ n) e (dvd-mul_left d a)))

pub same_num : (a b c d : ℕ) → 0 < b → IsGcd a b 1 → IsGcd c d 1 → a * d ≡ c * b → a ≡ c
same_num a b c d some left right e =
    let dens = same_den a b c d left right e in
    eq_of_mul-eq-mul_right b some a c (subst (λ n. a * n ≡ c * b) (sym dens) e)

-- ---- simple cases

pub gcd-same : (a b : ℕ) → a ≡ b → gcd a b ≡ a
gcd-same a b e = gcd_is a b a (dvd_refl a, subst (λ n. a ∣ n) e (dvd_refl a), λ d p q. p)

pub gcd-with_zero : (a b : ℕ) → (a ≡ 0) ⊎ (b ≡ 0) → gcd a b ≡ max a b
gcd-with_zero a b =
    ⊎_elim
    (λ e. let most : max a b ≡ b = omega arith in gcd_comm a b ∙ gcd_is b a b (IsGcd-from_zero b a e) ∙ sym most)
    (λ e. let most : max a b ≡ a = omega arith in gcd_is a b a (IsGcd-from_zero a b e) ∙ sym most)

pub gcd-with_one : (a b : ℕ) → (a ≡ 1) ⊎ (b ≡ 1) → gcd a b ≡ 1
gcd-with_one a b =
    ⊎_elim
    (λ e. gcd_is a b 1 (one-dvd a, one-dvd b, λ d p q. subst (λ n. d ∣ n) e p))
    (λ e. gcd_is a b 1 (one-dvd a, one-dvd b, λ d p q. subst (λ n. d ∣ n) e q))

pub gcd-rest : (a b : ℕ) → gcd b (a % b) ≡ gcd a b
gcd-rest a b = sym (gcd_is a b (gcd b (a % b)) (IsGcd-from_mod a b (gcd b (a % b)) (gcd-divides b (a % b))))

pub gcd-le : (a b : ℕ) → 0 < a → gcd a b ≤ a
gcd-le a b some = le_of_dvd some (gcd-divides a b).0

-- ---- odd numbers

odd_apart : (b : ℕ) → b % 2 ≡ 1 → IsGcd b 2 1
odd_apart b odd =
    (one-dvd b, one-dvd 2, λ d p q. subst (λ n. d ∣ n) odd ((dvd-mod_iff d q).1 p))

-- an odd number has nothing in common with a power of 2
pub odd_apart-pow : (b k : ℕ) → b % 2 ≡ 1 → IsGcd b (2 ^ k) 1
odd_apart-pow b zero odd = (one-dvd b, dvd_refl 1, λ d p q. q)
odd_apart-pow b (suc k) odd =
    subst (λ n. IsGcd b n 1) (sym (pow-suc 2 k)) (IsGcd-mul b (2 ^ k) 2 (odd_apart-pow b k odd) (odd_apart b odd))

-- factors of 2 have no part in a divisor of an odd number
pub gcd-twos_left : (m b k : ℕ) → b % 2 ≡ 1 → gcd (m * 2 ^ k) b ≡ gcd m b
gcd-twos_left m b k odd =
    let h = gcd-divides m b in
    gcd_is (m * 2 ^ k) b (gcd m b) (
      dvd_trans (gcd m b) h.0 (dvd-mul_right m (2 ^ k)),
      h.1,
      λ d p q.
          let apart : IsGcd d (2 ^ k) 1 = IsGcd-parts b (2 ^ k) d (2 ^ k) q (dvd_refl (2 ^ k)) (odd_apart-pow b k odd) in
          h.2 d (dvd_of_dvd-mul d (2 ^ k) m apart (subst (λ n. d ∣ n) (mul_comm m (2 ^ k)) p)) q,
    )

pub gcd-mul : (a b c : ℕ) → 0 < c → gcd (a * c) (b * c) ≡ gcd a b * c
gcd-mul a b c some = gcd_is (a * c) (b * c) (gcd a b * c) (gcd-scaled a b c some)

twos_below : (x y i k : ℕ) → x % 2 ≡ 1 → gcd (x * 2 ^ i) (y * 2 ^ (k + i)) ≡ gcd x y * 2 ^ i
twos_below x y i k odd =
    ap (gcd (x * 2 ^ i)) (ap (λ n. y * n) (pow-add 2 k i) ∙ sym (mul_assoc y (2 ^ k) (2 ^ i)))
    ∙ gcd-mul x (y * 2 ^ k) (2 ^ i) (pow_pos i)
    ∙ ap (λ n. n * 2 ^ i) (gcd_comm x (y * 2 ^ k) ∙ gcd-twos_left y x k odd ∙ gcd_comm y x)

pub gcd-twos : (x y i j : ℕ) → x % 2 ≡ 1 → y % 2 ≡ 1 → gcd (x * 2 ^ i) (y * 2 ^ j) ≡ gcd x y * 2 ^ min i j
gcd-twos x y i j x_odd y_odd =
    ⊎_elim
    (λ more.
    let least : min i j ≡ i = omega arith in
    let rest : j ≡ (j - i) + i = omega arith in
    ap (λ k. gcd (x * 2 ^ i) (y * 2 ^ k)) rest ∙ twos_below x y i (j - i) x_odd ∙ ap (λ k. gcd x y * 2 ^ k) (sym least))
    (λ most.
    let least : min i j ≡ j = omega arith in
    let rest : i ≡ (i - j) + j = omega arith in
    gcd_comm (x * 2 ^ i) (y * 2 ^ j) ∙ ap (λ k. gcd (y * 2 ^ j) (x * 2 ^ k)) rest ∙ twos_below y x j (i - j) y_odd
    ∙ ap₂ (λ g k. g * 2 ^ k) (gcd_comm y x) (sym least))
    (cases_lt i j)

pub gcd-difference : (a b : ℕ) → gcd (abs_diff a b) (min a b) ≡ gcd a b
gcd-difference a b =
    ⊎_elim
    (λ less.
    let apart : abs_diff a b ≡ b - a = omega arith in
    let least : min a b ≡ a = omega arith in
    ap₂ gcd apart least ∙ sym (gcd_is b a (gcd (b - a) a) (IsGcd-from_sub b a (gcd (b - a) a) (omega arith) (gcd-divides (b - a) a))) ∙ gcd_comm b a)
    (λ most.
    let apart : abs_diff a b ≡ a - b = omega arith in
    let least : min a b ≡ b = omega arith in
    ap₂ gcd apart least ∙ sym (gcd_is a b (gcd (a - b) b) (IsGcd-from_sub a b (gcd (a - b) b) most (gcd-divides (a - b) b))))
    (cases_lt a b)

-- ---- the odd part of a number

-- zeros below k are factors of 2
low_zeros : (n k : ℕ) → ((i : ℕ) → i < k → n / 2 ^ i % 2 ≡ 0) → n / 2 ^ k * 2 ^ k ≡ n
low_zeros n zero zeros = omega arith
low_zeros n (suc k) zeros =
    let half = n / 2 ^ k in
    let even : half % 2 ≡ 0 = zeros k (omega arith) in
    let doubled : half / 2 * 2 ≡ half = omega arith in
    let power : 2 ^ suc k ≡ 2 ^ k * 2 = pow-suc 2 k in
    let divided : n / 2 ^ suc k ≡ half / 2 = ap (λ m. n / m) power ∙ sym (div-div-eq-div-mul n (2 ^ k) 2) in
    ap₂ (λ p q. p * q) divided power ∙ regroup (half / 2) (2 ^ k) ∙ ap (λ p. p * 2 ^ k) doubled ∙ low_zeros n k (λ i less. zeros i (omega arith))
  where
    regroup : (p q : ℕ) → p * (q * 2) ≡ p * 2 * q
    regroup p q = omega arith

pub odd_part : (w : Width) (n : ℕ) → 0 < n → n < 2 ^ bits w → n / 2 ^ trailing_zeros w n % 2 ≡ 1
odd_part w n some fits = (bit_at-trailing_zeros w n some fits).1

pub odd_part-whole : (w : Width) (n : ℕ) → 0 < n → n < 2 ^ bits w → n / 2 ^ trailing_zeros w n * 2 ^ trailing_zeros w n ≡ n
odd_part-whole w n some fits = low_zeros n (trailing_zeros w n) (bit_at-trailing_zeros w n some fits).2

-- the divisor of two numbers from that of their odd parts, where m is past all of them
pub gcd-from_odd : (a b x y i j m r : ℕ) → 0 < a → a < m → x % 2 ≡ 1 → y % 2 ≡ 1 → x * 2 ^ i ≡ a → y * 2 ^ j ≡ b → r ≡ gcd x y → r * 2 ^ min i j % m ≡ gcd a b
gcd-from_odd a b x y i j m r some fits x_odd y_odd a_is b_is r_is =
    let made : r * 2 ^ min i j ≡ gcd a b =
    ap (λ n. n * 2 ^ min i j) r_is ∙ sym (gcd-twos x y i j x_odd y_odd) ∙ ap₂ gcd a_is b_is in
    ap (λ n. n % m) made ∙ mod-eq_of_lt (lt_of_le_of_lt (gcd-le a b some) fits)
