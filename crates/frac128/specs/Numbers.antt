-- Whole numbers, as the definitions of this crate use them.
use Rattle.std.specs.Prelude.{ℕ, ◌%◌, ◌^◌, ◌==◌, Bool, true, false, zero, suc, nat_lt, ℤ, pos, negsuc, neg_ℤ}

-- what no part of a fraction reaches in size
abbrev pub limit : ℕ
limit = 2 ^ 127

abbrev pub is_below_limit : ℕ → Bool
is_below_limit n = nat_lt n limit

abbrev pub is_below_zero : ℤ → Bool
is_below_zero (pos _) = false
is_below_zero (negsuc _) = true

-- n, or -n where the flag is set
abbrev pub signed : Bool → ℕ → ℤ
signed false n = pos n
signed true n = neg_ℤ (pos n)

-- Euclid's algorithm, in at most `steps` steps
unfoldable pub gcd_within : ℕ → ℕ → ℕ → ℕ
gcd_within zero a b = a
gcd_within (suc steps) a b = elim (b == 0) [ true ↦ a | false ↦ gcd_within steps b (a % b) ]

-- the greatest common divisor
unfoldable pub gcd : ℕ → ℕ → ℕ
gcd a b = gcd_within b a b
