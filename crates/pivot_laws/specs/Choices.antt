-- Choices of some numbers among those below a bound.
use Rattle.std.specs.Prelude.{◌≡◌, ◌<◌, ℕ, All, AllPairs, List, length}

-- a list of m numbers below n, each greater than the one before
pub record IsChoice (n m : ℕ) (xs : List ℕ) : Type 0 where
  pub count : length xs ≡ m
  pub rising : AllPairs (λ x y. x < y) xs
  pub low : All (λ x. x < n) xs
