-- Fractions, and their exact sums, products and inverses, whatever the size of the parts.
use Rattle.std.specs.Prelude.{ℕ, ◌-◌, ◌*◌, ◌/◌, suc, ℤ, pos, negsuc, ◌+ℤ◌, ◌*ℤ◌, neg_ℤ, unsigned_abs}
use Rattle.frac128.specs.Numbers.{gcd, is_below_zero, signed}

-- num over one more than `below`: a denominator is never 0
pub record Fraction : Type 0 where
  pub num : ℤ
  pub below : ℕ

-- the denominator
abbrev pub den : Fraction → ℕ
den x = suc x.below

-- n over d, where d is above 0
abbrev pub fraction : ℤ → ℕ → Fraction
fraction n d = record { num = n; below = d - 1 }

abbrev pub zero_value : Fraction
zero_value = record { num = pos 0; below = 0 }

abbrev pub one_value : Fraction
one_value = record { num = pos 1; below = 0 }

-- n over d in lowest terms, where d is above 0
unfoldable pub lowest : ℤ → ℕ → Fraction
lowest n d = let g = gcd (unsigned_abs n) d in fraction (signed (is_below_zero n) (unsigned_abs n / g)) (d / g)

-- n over d in lowest terms, where d is not 0
abbrev pub quotient : ℤ → ℤ → Fraction
quotient n (pos d) = lowest n d
quotient n (negsuc d) = lowest (neg_ℤ n) (suc d)

-- -x
abbrev pub negation : Fraction → Fraction
negation x = record { num = neg_ℤ x.num; below = x.below }

-- 1 / x, where x is not 0
unfoldable pub inverse : Fraction → Fraction
inverse x = fraction (signed (is_below_zero x.num) (den x)) (unsigned_abs x.num)

-- x + y in lowest terms
unfoldable pub exact_sum : Fraction → Fraction → Fraction
exact_sum x y = lowest (x.num *ℤ pos (den y) +ℤ y.num *ℤ pos (den x)) (den x * den y)

-- x - y in lowest terms
abbrev pub exact_difference : Fraction → Fraction → Fraction
exact_difference x y = exact_sum x (negation y)

-- x * y in lowest terms
unfoldable pub exact_product : Fraction → Fraction → Fraction
exact_product x y = lowest (x.num *ℤ y.num) (den x * den y)

-- x / y in lowest terms, where y is not 0
abbrev pub exact_quotient : Fraction → Fraction → Fraction
exact_quotient x y = exact_product x (inverse y)
