-- The ways to choose: a step from one number to the next, that they rise, and that what is chosen and what is left are alike.
use Rattle.std.proofs.Common.{◌≡◌, refl, sym, ◌∙◌, ap, ap₂, subst, ℕ, zero, suc, ◌+◌, ◌*◌, ◌/◌, ◌≤◌, arith}
use Rattle.std.proofs.Math.Nat.{mul-div_cancel}
use Rattle.limit_defs.specs.Counts.{choose}

-- ---- what is chosen and what is left

none_of_fewer : (n k : ℕ) → choose n (suc (n + k)) ≡ 0
unfolding choose
none_of_fewer zero k = refl
none_of_fewer (suc n) k =
    let less : suc n + k ≡ suc (n + k) = omega arith in
    let more : suc n + k ≡ n + suc k = omega arith in
    ap₂ (λ a b. a + b) (ap (choose n) less ∙ none_of_fewer n k) (ap (λ i. choose n (suc i)) more ∙ none_of_fewer n (suc k))

all_of : (n : ℕ) → choose n n ≡ 1
unfolding choose
all_of zero = refl
all_of (suc n) =
    let same : n ≡ n + 0 = omega arith in
    let none : choose n (suc n) ≡ 0 = ap (λ i. choose n (suc i)) same ∙ none_of_fewer n 0 in
    ap₂ (λ a b. a + b) (all_of n) none

pub either_part : (a b : ℕ) → choose (a + b) a ≡ choose (a + b) b
unfolding choose
either_part zero b = let same : 0 + b ≡ b = omega arith in ap (λ n. choose n 0) same ∙ sym (all_of b) ∙ ap (λ n. choose n b) (sym same)
either_part (suc a) zero = let same : suc a + 0 ≡ suc a = omega arith in ap (λ n. choose n (suc a)) same ∙ all_of (suc a)
either_part (suc a) (suc b) =
    let left : choose (a + suc b) a ≡ choose (a + suc b) (suc b) = either_part a (suc b) in
    let right : choose (suc a + b) (suc a) ≡ choose (suc a + b) b = either_part (suc a) b in
    let same : suc a + b ≡ a + suc b = omega arith in
    let whole : suc a + suc b ≡ suc (a + suc b) = omega arith in
    let first : choose (a + suc b) (suc a) ≡ choose (a + suc b) b = subst (λ n. choose n (suc a) ≡ choose n b) same right in
    let swap : choose (a + suc b) (suc b) + choose (a + suc b) b ≡ choose (a + suc b) b + choose (a + suc b) (suc b) = omega arith in
    ap (λ n. choose n (suc a)) whole ∙ ap₂ (λ x y. x + y) left first ∙ swap ∙ ap (λ n. choose n (suc b)) (sym whole)

-- ---- one more to choose from, and one more to choose

pub one_more : (n k : ℕ) → choose (suc n) (suc k) * suc k ≡ choose n k * suc n
unfolding choose
one_more zero zero = refl
one_more zero (suc k) = omega arith
one_more (suc n) zero = first (choose n 1) n (one_more n zero)
  where
    first : (b n : ℕ) → (1 + b) * 1 ≡ 1 * suc n → (1 + (1 + b)) * 1 ≡ 1 * suc (suc n)
    first b n h = omega (arith, h)
one_more (suc n) (suc k) = later (choose n k) (choose n (suc k)) (choose n (suc (suc k))) n k (one_more n k) (one_more n (suc k))
  where
    later : (a b c n k : ℕ) → (a + b) * suc k ≡ a * suc n → (b + c) * suc (suc k) ≡ b * suc n
        → ((a + b) + (b + c)) * suc (suc k) ≡ (a + b) * suc (suc n)
    later a b c n k h g = omega (arith, h, g)

-- what a step of the loop divides
pub next_ways : (many step : ℕ) → 2 * choose (many + step) step * (many + step + 1) / (step + 1) ≡ 2 * choose (many + (step + 1)) (step + 1)
next_ways many step =
    let one : step + 1 ≡ suc step = omega arith in
    let next : many + suc step ≡ suc (many + step) = omega arith in
    let product = one_more (many + step) step in
    let whole : 2 * choose (many + step) step * (many + step + 1) ≡ 2 * choose (many + suc step) (suc step) * suc step =
    joined (choose (many + step) step) (choose (suc (many + step)) (suc step)) (many + step) step product ∙ ap (λ n. 2 * choose n (suc step) * suc step) (sym next) in
    ap (λ n. 2 * choose (many + step) step * (many + step + 1) / n) one
    ∙ ap (λ n. n / suc step) whole ∙ mul-div_cancel (2 * choose (many + suc step) (suc step)) {n = suc step} (omega arith)
    ∙ ap (λ n. 2 * choose (many + n) n) (sym one)
  where
    joined : (a b n k : ℕ) → b * suc k ≡ a * suc n → 2 * a * (n + 1) ≡ 2 * b * suc k
    joined a b n k h = omega (arith, h)

pub choose_rises : (many few more : ℕ) → choose (many + few) few ≤ choose (many + (few + more)) (few + more)
unfolding choose
choose_rises many few zero = let same : few + 0 ≡ few = omega arith in subst (λ n. choose (many + few) few ≤ choose (many + n) n) (sym same) (omega arith)
choose_rises many few (suc more) =
    let before = choose_rises many few more in
    let n : few + suc more ≡ suc (few + more) = omega arith in
    let next : many + suc (few + more) ≡ suc (many + (few + more)) = omega arith in
    let here : choose (many + few) few ≤ choose (suc (many + (few + more))) (suc (few + more)) = omega (arith, before) in
    subst (λ i. choose (many + few) few ≤ choose (many + i) i) (sym n) (subst (λ i. choose (many + few) few ≤ choose i (suc (few + more))) (sym next) here)
