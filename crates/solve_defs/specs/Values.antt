-- Fractions compared by value, whole numbers among them, and what a model has of a variable.
use Rattle.std.specs.Prelude.{ℕ, ◌/◌, ◌==◌, Bool, List, [], ◌∷◌, slice_index_or, Option, Some, None, unwrap_or, ℤ, pos, negsuc, if◌then◌else◌}
use Rattle.std.specs.Ordering.{int_eq, is_eq, is_le, is_lt}
use Rattle.frac128.specs.Fraction.{Fraction, den, negation, zero_value}
use Rattle.frac128.specs.Order.{order_of}
use Rattle.model_data.specs.declared.model.Direction.{Direction}
use Rattle.model_data.specs.declared.model.Direction.TheVariants.{Minimize, Maximize}
use Rattle.model_data.specs.declared.model.Term.{Term}

abbrev pub is_at_most : Fraction → Fraction → Bool
is_at_most x y = is_le (order_of x y)

abbrev pub is_below : Fraction → Fraction → Bool
is_below x y = is_lt (order_of x y)

abbrev pub is_same : Fraction → Fraction → Bool
is_same x y = is_eq (order_of x y)

abbrev pub is_zero : Fraction → Bool
is_zero x = int_eq x.num (pos 0)

-- a whole number as a fraction
abbrev pub whole : ℤ → Fraction
whole n = record { num = n; below = 0 }

-- a fraction in lowest terms is a whole number
abbrev pub is_whole : Fraction → Bool
is_whole x = x.below == 0

-- the greatest whole number that is at most n over d
abbrev pub floor_over : ℤ → ℕ → ℤ
floor_over (pos n) d = pos (n / d)
floor_over (negsuc n) d = negsuc (n / d)

abbrev pub floor_of : Fraction → ℤ
floor_of x = floor_over x.num (den x)

-- What is to be minimized is negated, and maximized.
abbrev pub turned : Direction → Fraction → Fraction
turned Minimize x = negation x
turned Maximize x = x

-- x is a better value of the objective than y
abbrev pub is_better : Direction → Fraction → Fraction → Bool
is_better Minimize x y = is_below x y
is_better Maximize x y = is_below y x

abbrev pub value_at : List Fraction → ℕ → Fraction
value_at xs place = slice_index_or xs place zero_value

-- the coefficient of the variable of this place, where the row has a term of it
abbrev pub term_of : List Term → ℕ → Option Fraction
term_of [] place = None
term_of (t ∷ terms) place = if t.var == place then Some t.coef else term_of terms place

abbrev pub coefficient : List Term → ℕ → Fraction
coefficient terms place = unwrap_or (term_of terms place) zero_value
