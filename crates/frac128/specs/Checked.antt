-- Operations that tell what did not fit, and their chains.
use Rattle.std.specs.Prelude.{Bool, cond, Result, Ok, Err}
use Rattle.frac128.specs.Fraction.{Fraction, exact_sum, exact_difference, exact_product, exact_quotient}
use Rattle.frac128.specs.Fits.{sum_fits, difference_fits, product_fits, quotient_fits}
use Rattle.frac128.specs.declared.operations.Op.{Op}
use Rattle.frac128.specs.declared.operations.Op.TheVariants.{Add, Sub, Mul, Div}
use Rattle.frac128.specs.declared.operations.Wide.{Wide}

-- the value where it fits, else the operation with its operands
abbrev pub value_or_wide : Bool → Fraction → Op → Fraction → Fraction → Result Fraction Wide
value_or_wide fits value op x y = cond fits (Ok value) (Err record { op = op; left = x; right = y })

abbrev pub checked_sum : Fraction → Fraction → Result Fraction Wide
checked_sum x y = value_or_wide (sum_fits x y) (exact_sum x y) Add x y

abbrev pub checked_difference : Fraction → Fraction → Result Fraction Wide
checked_difference x y = value_or_wide (difference_fits x y) (exact_difference x y) Sub x y

abbrev pub checked_product : Fraction → Fraction → Result Fraction Wide
checked_product x y = value_or_wide (product_fits x y) (exact_product x y) Mul x y

-- where y is not 0
abbrev pub checked_quotient : Fraction → Fraction → Result Fraction Wide
checked_quotient x y = value_or_wide (quotient_fits x y) (exact_quotient x y) Div x y

-- what f gives of the first result, or the first refusal, whatever is refused: the step of do-notation
infixl 10 ◌>>=◌
abbrev pub ◌>>=◌ : {A B E : Type 0} → Result A E → (A → Result B E) → Result B E
◌>>=◌ (Ok a) f = f a
◌>>=◌ (Err e) f = Err e

-- x - f * y
abbrev pub less_product : Fraction → Fraction → Fraction → Result Fraction Wide
less_product f x y = do
  product ← checked_product f y
  checked_difference x product

-- x + f * y
abbrev pub plus_product : Fraction → Fraction → Fraction → Result Fraction Wide
plus_product f x y = do
  product ← checked_product f y
  checked_sum x product
