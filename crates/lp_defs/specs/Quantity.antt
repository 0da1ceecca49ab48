-- Numbers as a model's text has them: finite, infinite, or too wide, so that their use decides.
use Rattle.std.specs.Prelude.{◌*◌, Bool, true, false, not, Option, Some, None, nat_le, unsigned_abs, if◌then◌else◌}
use Rattle.frac128.specs.Fraction.{Fraction, den, negation, one_value, exact_sum}
use Rattle.frac128.specs.Fits.{sum_fits}
use Rattle.frac128.specs.Numbers.{is_below_zero}
use Rattle.model_data.specs.declared.limits.TheConstants.{BOUND_SIZE}
use Rattle.model_data.specs.declared.model.Sense.{Sense}
use Rattle.model_data.specs.declared.model.Sense.TheVariants.{Less, Greater, Equal}
use Rattle.model_data.specs.declared.model.Var.{Var}
use Rattle.lp_defs.specs.Symbols.{Quantity, finite, too_wide, infinite}

-- A sign in front of a number multiplies it, which may have a sign of its own.
abbrev pub under_sign : Bool → Quantity → Quantity
under_sign false quantity = quantity
under_sign true (finite x) = finite (negation x)
under_sign true (too_wide negative huge) = too_wide (not negative) huge
under_sign true (infinite negative) = infinite (not negative)

-- the coefficient of a name without a number
abbrev pub unit : Bool → Fraction
unit false = one_value
unit true = negation one_value

-- Coefficients, constants and right sides are finite, and their parts fit.
abbrev pub value_of : Quantity → Option Fraction
value_of (finite x) = Some x
value_of (too_wide negative huge) = None
value_of (infinite negative) = None

-- what a further number makes of a sum, where that addition fits
abbrev pub added : Fraction → Fraction → Option Fraction
added so_far x = if sum_fits so_far x then Some (exact_sum so_far x) else None

-- What a bound is set to. The flag says that it is infinite below.
pub data Limit : Type 0 where
  limited : Fraction → Limit
  unlimited : Bool → Limit

-- at least 10 ^ 20 in size
abbrev pub is_far : Fraction → Bool
is_far x = nat_le (BOUND_SIZE * den x) (unsigned_abs x.num)

-- A number that is far from 0 is infinite as a bound, and one that is too wide for its small size is none.
abbrev pub limit_of : Quantity → Option Limit
limit_of (finite x) = Some (if is_far x then unlimited (is_below_zero x.num) else limited x)
limit_of (infinite negative) = Some (unlimited negative)
limit_of (too_wide negative true) = Some (unlimited negative)
limit_of (too_wide negative false) = None

-- whether a variable may be at most, at least or equal to the limit: an infinite upper bound is above, an infinite lower
-- one below, and what a variable equals is finite
abbrev pub may_bound : Sense → Limit → Bool
may_bound sense (limited x) = true
may_bound Less (unlimited negative) = not negative
may_bound Greater (unlimited negative) = negative
may_bound Equal (unlimited negative) = false

abbrev pub bound_of : Limit → Option Fraction
bound_of (limited x) = Some x
bound_of (unlimited negative) = None

-- A variable that is at most, at least or equal to the limit. The other bound stays as it is.
abbrev pub with_bound : Sense → Limit → Var → Var
with_bound Less limit v = record v { upper = bound_of limit }
with_bound Greater limit v = record v { lower = bound_of limit }
with_bound Equal limit v = record v { lower = bound_of limit; upper = bound_of limit }

-- 5 <= x says x >= 5
abbrev pub turned : Sense → Sense
turned Less = Greater
turned Greater = Less
turned Equal = Equal
