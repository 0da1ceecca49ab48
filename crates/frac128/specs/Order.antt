-- The order of fractions by value, and the whole numbers next to one.
use Rattle.std.specs.Prelude.{ℤ, pos, ◌+ℤ◌, ◌-ℤ◌, ◌*ℤ◌, ◌≤ℤ◌, ◌<ℤ◌}
use Rattle.std.specs.Ordering.{int_cmp}
use Rattle.std.specs.declared.cmp.Ordering.{Ordering}
use Rattle.frac128.specs.Fraction.{Fraction, den}

-- how x compares with y, by cross products
abbrev pub order_of : Fraction → Fraction → Ordering
order_of x y = int_cmp (x.num *ℤ pos (den y)) (y.num *ℤ pos (den x))

-- x is at most y
pub record IsAtMost (x y : Fraction) : Type 0 where
  pub at_most : (x.num *ℤ pos (den y)) ≤ℤ (y.num *ℤ pos (den x))

-- x is below y
pub record IsBelow (x y : Fraction) : Type 0 where
  pub below : (x.num *ℤ pos (den y)) <ℤ (y.num *ℤ pos (den x))

-- n is the greatest whole number that is at most x
pub record IsFloor (x : Fraction) (n : ℤ) : Type 0 where
  pub at_most : (n *ℤ pos (den x)) ≤ℤ x.num
  pub next_above : x.num <ℤ ((n +ℤ pos 1) *ℤ pos (den x))

-- n is the least whole number that is at least x
pub record IsCeil (x : Fraction) (n : ℤ) : Type 0 where
  pub at_least : x.num ≤ℤ (n *ℤ pos (den x))
  pub last_below : ((n -ℤ pos 1) *ℤ pos (den x)) <ℤ x.num
