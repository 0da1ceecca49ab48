-- How many ways there are to choose, and how many pivots a relaxation takes at most.
use Rattle.std.specs.Prelude.{ℕ, zero, suc, ◌+◌, ◌*◌}

-- the ways to choose m of n
unfoldable pub choose : ℕ → ℕ → ℕ
choose n zero = 1
choose zero (suc m) = 0
choose (suc n) (suc m) = choose n m + choose n (suc m)

-- Twice the ways to choose which of all variables are basic: the columns, the slacks of the rows and the artificial variable. Each
-- phase has fewer pivots than such choices, and there are two.
abbrev pub pivots_within : (columns rows : ℕ) → ℕ
pivots_within columns rows = 2 * choose (columns + rows + 1) rows
