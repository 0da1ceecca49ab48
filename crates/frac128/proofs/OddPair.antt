-- The two numbers of a loop that looks for a greatest common divisor by differences.
use Rattle.std.proofs.Common.{◌≡◌, sym, ◌∙◌, ap, subst, ⊎_elim, ℕ, ◌*◌, ◌%◌, ◌^◌, min, arith}
use Rattle.std.proofs.lemmas.Bool.{cases_lt}
use Rattle.std.specs.Int.{abs_diff}
use Rattle.frac128.specs.Numbers.{gcd}
use Rattle.frac128.proofs.Divisors.{gcd-difference, gcd-twos_left}

-- two odd numbers with this divisor
pub record OddPair (a b divisor : ℕ) : Type 0 where
  pub a_odd : a % 2 ≡ 1
  pub b_odd : b % 2 ≡ 1
  pub same : gcd a b ≡ divisor

min_odd : (a b : ℕ) → a % 2 ≡ 1 → b % 2 ≡ 1 → min a b % 2 ≡ 1
min_odd a b p q =
    ⊎_elim
    (λ less. let least : min a b ≡ a = omega arith in subst (λ n. n % 2 ≡ 1) (sym least) p)
    (λ most. let least : min a b ≡ b = omega arith in subst (λ n. n % 2 ≡ 1) (sym least) q)
    (cases_lt a b)

-- the odd part of their difference, with the lesser one
pub OddPair-step : (a b divisor odd twos : ℕ) → OddPair a b divisor → odd % 2 ≡ 1 → odd * 2 ^ twos ≡ abs_diff a b → OddPair odd (min a b) divisor
OddPair-step a b divisor odd twos pair is_odd whole =
    let least = min_odd a b pair.a_odd pair.b_odd in
    record {
      a_odd = is_odd;
      b_odd = least;
      same = sym (gcd-twos_left odd (min a b) twos least) ∙ ap (λ n. gcd n (min a b)) whole ∙ gcd-difference a b ∙ pair.same;
    }
