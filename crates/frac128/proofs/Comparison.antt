-- The order of quotients by whole parts and rests.
use Rattle.std.proofs.Common.{◌≡◌, ◌≢◌, refl, sym, ◌∙◌, ap, ap₂, subst, ℕ, suc, ◌+◌, ◌*◌, ◌/◌, ◌%◌, ◌<◌, ◌≤◌, ◌⊎◌, ⊎_elim, ℤ, pos, ◌+ℤ◌, ◌*ℤ◌, nat_cmp, int_cmp, Ordering, Less, Equal, Greater, arith}
use Rattle.std.specs.Prelude.{◌<ℤ◌}
use Rattle.std.specs.Ordering.{MatchOrdering}
use Rattle.std.specs.Cmp.{nat_cmp_is, int_cmp_is, ranked, int_ranked}
use Rattle.std.proofs.Math.Nat.{div-add-mod', mod-lt, mul_comm, mul-le-mul_right, mul-lt-mul_of_pos_right, mul-pos}
use Rattle.std.proofs.lemmas.Int.{ints}
use borrow.Author.Differences.{up, down, product_is}
use Rattle.frac128.proofs.Integers.{mul-mul_pos, add-mul}

match_map : {P Q R S T U : Type 0} (r : Ordering) → (P → S) → (Q → T) → (R → U) → MatchOrdering r P Q R → MatchOrdering r S T U
match_map Less f g h m = f m
match_map Equal f g h m = g m
match_map Greater f g h m = h m

-- two pairs in one order
pub nat_cmp-like : (x y u v : ℕ) → (x < y → u < v) → (x ≡ y → u ≡ v) → (y < x → v < u) → nat_cmp x y ≡ nat_cmp u v
nat_cmp-like x y u v less same more = nat_cmp_is u v (nat_cmp x y) (match_map (nat_cmp x y) less same more (ranked x y _ refl))

pub int_cmp-like : (x y u v : ℤ) → (x <ℤ y → u <ℤ v) → (x ≡ y → u ≡ v) → (y <ℤ x → v <ℤ u) → int_cmp x y ≡ int_cmp u v
int_cmp-like x y u v less same more = int_cmp_is u v (int_cmp x y) (match_map (int_cmp x y) less same more (int_ranked x y _ refl))

pub nat-int_cmp : (m n : ℕ) (u v : ℤ) → (m < n → u <ℤ v) → (m ≡ n → u ≡ v) → (n < m → v <ℤ u) → nat_cmp m n ≡ int_cmp u v
nat-int_cmp m n u v less same more = int_cmp_is u v (nat_cmp m n) (match_map (nat_cmp m n) less same more (ranked m n _ refl))

-- a product by whole part and rest
parts : (a b d : ℕ) → a * d ≡ a / b * (b * d) + a % b * d
parts a b d = ap (λ n. n * d) (sym (div-add-mod' a b)) ∙ omega arith

-- a quotient with the smaller whole part is the smaller one
below : (a b c d : ℕ) → 0 < b → 0 < d → a / b < c / d → a * d < c * b
below a b c d b_some d_some less =
    let rest : a % b * d < b * d = mul-lt-mul_of_pos_right (mod-lt a b_some) d_some in
    let wholes : suc (a / b) * (b * d) ≤ c / d * (b * d) = mul-le-mul_right (b * d) (omega arith) in
    let left : a * d ≡ a / b * (b * d) + a % b * d = parts a b d in
    let right : c * b ≡ c / d * (d * b) + c % d * b = parts c d b in
    omega arith

pub nat_cmp-whole : (a b c d : ℕ) → 0 < b → 0 < d → a / b ≢ c / d → nat_cmp (a / b) (c / d) ≡ nat_cmp (a * d) (c * b)
nat_cmp-whole a b c d b_some d_some differ =
    nat_cmp-like (a / b) (c / d) (a * d) (c * b) (below a b c d b_some d_some) (λ e. absurd (differ e)) (below c d a b d_some b_some)

pub nat_cmp-rests : (a b c d : ℕ) → a / b ≡ c / d → nat_cmp (a % b * d) (c % d * b) ≡ nat_cmp (a * d) (c * b)
nat_cmp-rests a b c d same =
    let left : a * d ≡ a / b * (b * d) + a % b * d = parts a b d in
    let right : c * b ≡ a / b * (b * d) + c % d * b = parts c d b ∙ ap (λ n. n * (d * b) + c % d * b) (sym same) ∙ omega arith in
    nat_cmp-like (a % b * d) (c % d * b) (a * d) (c * b) (λ h. omega arith) (λ h. omega arith) (λ h. omega arith)

-- a rest of 0 decides without the denominators
pub nat_cmp-zero : (r s b d : ℕ) → 0 < b → 0 < d → (r ≡ 0) ⊎ (s ≡ 0) → nat_cmp r s ≡ nat_cmp (r * d) (s * b)
nat_cmp-zero r s b d b_some d_some =
    ⊎_elim
    (λ e. nat_cmp-like r s (r * d) (s * b)
    (λ h. let up_s : 0 < s * b = mul-pos (omega arith) b_some in omega (arith, ap (λ n. n * d) e))
    (λ h. omega (arith, ap (λ n. n * d) e, ap (λ n. n * b) (sym h ∙ e)))
    (λ h. absurd (omega arith)))
    (λ e. nat_cmp-like r s (r * d) (s * b)
    (λ h. absurd (omega arith))
    (λ h. omega (arith, ap (λ n. n * b) e, ap (λ n. n * d) (h ∙ e)))
    (λ h. let up_r : 0 < r * d = mul-pos (omega arith) d_some in omega (arith, ap (λ n. n * b) e)))

-- the same with each product turned
pub nat_cmp-turned : (a b c d : ℕ) → nat_cmp (d * a) (b * c) ≡ nat_cmp (a * d) (c * b)
nat_cmp-turned a b c d = ap₂ nat_cmp (mul_comm d a) (mul_comm b c)

-- ---- the same with a sign

-- what whole part w and rest r make, over another denominator
scaled : (w : ℤ) (r d e : ℕ) (n : ℤ) → w *ℤ pos d +ℤ pos r ≡ n → n *ℤ pos e ≡ w *ℤ pos (d * e) +ℤ pos (r * e)
scaled w r d e n h = ap (λ z. z *ℤ pos e) (sym h) ∙ add-mul (w *ℤ pos d) (pos r) (pos e) ∙ ap (λ z. z +ℤ pos (r * e)) (mul-mul_pos w d e)

-- the smaller whole part, with any rests
int_below : (w v : ℤ) (k p q : ℕ) → p < k → w <ℤ v → (w *ℤ pos k +ℤ pos p) <ℤ (v *ℤ pos k +ℤ pos q)
int_below w v k p q rest less =
    let wholes : (up w + down v + 1) * k ≤ (up v + down w) * k = mul-le-mul_right k (omega (arith, ints, less)) in
    let left = product_is w (pos k) in
    let right = product_is v (pos k) in
    let pairs : up w * k + down v * k + k ≤ up v * k + down w * k = omega arith in
    omega (arith, ints)

pub int_cmp-whole : (w v x y : ℤ) (r s d e : ℕ) → r < d → s < e → w *ℤ pos d +ℤ pos r ≡ x → v *ℤ pos e +ℤ pos s ≡ y → w ≢ v → int_cmp w v ≡ int_cmp (x *ℤ pos e) (y *ℤ pos d)
int_cmp-whole w v x y r s d e r_less s_less left right differ =
    let left_rest : r * e < d * e = mul-lt-mul_of_pos_right r_less (omega arith) in
    let right_rest : s * d < d * e = omega (arith, mul-lt-mul_of_pos_right {k = d} s_less (omega arith)) in
    let left_is : x *ℤ pos e ≡ w *ℤ pos (d * e) +ℤ pos (r * e) = scaled w r d e x left in
    let right_is : y *ℤ pos d ≡ v *ℤ pos (d * e) +ℤ pos (s * d) = scaled v s e d y right ∙ ap (λ n. v *ℤ pos n +ℤ pos (s * d)) (mul_comm e d) in
    int_cmp-like w v _ _
    (λ h. subst (λ z. z <ℤ (y *ℤ pos d)) (sym left_is) (subst (λ z. (w *ℤ pos (d * e) +ℤ pos (r * e)) <ℤ z) (sym right_is) (int_below w v (d * e) (r * e) (s * d) left_rest h)))
    (λ h. absurd (differ h))
    (λ h. subst (λ z. z <ℤ (x *ℤ pos e)) (sym right_is) (subst (λ z. (v *ℤ pos (d * e) +ℤ pos (s * d)) <ℤ z) (sym left_is) (int_below v w (d * e) (s * d) (r * e) right_rest h)))

pub int_cmp-rests : (w x y : ℤ) (r s d e : ℕ) → w *ℤ pos d +ℤ pos r ≡ x → w *ℤ pos e +ℤ pos s ≡ y → nat_cmp (r * e) (s * d) ≡ int_cmp (x *ℤ pos e) (y *ℤ pos d)
int_cmp-rests w x y r s d e left right =
    let left_is : x *ℤ pos e ≡ w *ℤ pos (d * e) +ℤ pos (r * e) = scaled w r d e x left in
    let right_is : y *ℤ pos d ≡ w *ℤ pos (d * e) +ℤ pos (s * d) = scaled w s e d y right ∙ ap (λ n. w *ℤ pos n +ℤ pos (s * d)) (mul_comm e d) in
    nat-int_cmp (r * e) (s * d) (w *ℤ pos (d * e) +ℤ pos (r * e)) (w *ℤ pos (d * e) +ℤ pos (s * d)) (λ h. omega (arith, ints)) (λ h. ap (λ n. w *ℤ pos (d * e) +ℤ pos n) h) (λ h. omega (arith, ints))
    ∙ ap₂ int_cmp (sym left_is) (sym right_is)
