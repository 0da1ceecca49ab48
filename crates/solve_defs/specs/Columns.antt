-- Values of the columns of a standard form, which of them are allowed, and which values of the variables they stand for.
-- All results are exact, whatever the size of their parts.
use Rattle.std.specs.Prelude.{◌≡◌, ℕ, suc, ◌+◌, All, List, [], ◌∷◌, length, ℤ}
use Rattle.frac128.specs.Fraction.{Fraction, exact_difference, exact_product, exact_sum, zero_value}
use Rattle.frac128.specs.Lowest.{IsInLowestTerms}
use Rattle.frac128.specs.Order.{IsAtMost, IsBelow}
use Rattle.model_data.specs.declared.model.Direction.{Direction}
use Rattle.model_data.specs.declared.model.Model.{Model}
use Rattle.dictionary.specs.declared.standard.Std.{Std}
use Rattle.dictionary.specs.declared.standard.StdRow.{StdRow}
use Rattle.solve_defs.specs.Points.{HasValues, SameValue, objective_value, ratio, relaxation}
use Rattle.solve_defs.specs.StandardForm.{Shape, shifted, mirrored, free, shapes_of, width}
use Rattle.solve_defs.specs.Values.{turned, value_at, whole}
use Rattle.solve_defs.specs.declared.cut.Cut.{Cut}

-- ---- values of columns

-- the sum of each coefficient times its column's value
abbrev pub columns_sum : List Fraction → List Fraction → Fraction
columns_sum [] ys = zero_value
columns_sum (a ∷ coefs) [] = zero_value
columns_sum (a ∷ coefs) (y ∷ ys) = exact_sum (exact_product a y) (columns_sum coefs ys)

-- the row's sum is at most its right side
abbrev pub KeepsStdRow : List Fraction → StdRow → Type 0
KeepsStdRow ys row = IsAtMost (columns_sum row.coefs ys) row.rhs

-- Each column has a value in lowest terms that is at least 0, and with them each row holds.
pub record IsColumnsPoint (s : Std) (ys : List Fraction) : Type 0 where
  pub columns : length ys ≡ length s.obj
  pub lowest : All IsInLowestTerms ys
  pub at_least_zero : All (IsAtMost zero_value) ys
  pub rows : All (KeepsStdRow ys) s.rows

-- what is to be maximized
abbrev pub form_value : Std → List Fraction → Fraction
form_value s ys = exact_sum s.constant (columns_sum s.obj ys)

-- the same as the model has it, which may be minimized
abbrev pub model_value : Direction → Std → List Fraction → Fraction
model_value direction s ys = turned direction (form_value s ys)

-- ---- the variables

-- a variable's value from its first and its second column
abbrev pub exact_value : Shape → Fraction → Fraction → Fraction
exact_value (shifted lower upper) x y = exact_sum lower x
exact_value (mirrored upper) x y = exact_difference upper x
exact_value free x y = exact_difference x y

-- the variables' values from those of the columns, of which so many stand before
abbrev pub exact_values_from : ℕ → List Shape → List Fraction → List Fraction
exact_values_from column [] ys = []
exact_values_from column (shape ∷ shapes) ys =
    exact_value shape (value_at ys column) (value_at ys (suc column)) ∷ exact_values_from (column + width shape) shapes ys

-- the point that values of the columns stand for
abbrev pub exact_point : List Shape → List Fraction → List Fraction
exact_point shapes ys = exact_values_from 0 shapes ys

-- Allowed values of the columns stand for the point X / d of the model with these cuts, and have its value.
pub record ComesFromColumns (m : Model) (cuts : List Cut) (s : Std) (X : List ℤ) (d : ℕ) : Type 0 where
  pub ys : List Fraction
  pub allowed : IsColumnsPoint s ys
  pub values : HasValues X d (exact_point (shapes_of m cuts) ys)
  pub value : SameValue (objective_value (relaxation m cuts) X d) (ratio (model_value m.direction s ys))

-- ---- how a standard form may end

-- No allowed values have a greater one.
pub record IsBestColumnsPoint (s : Std) (ys : List Fraction) : Type 0 where
  pub allowed : IsColumnsPoint s ys
  pub none_greater : (zs : List Fraction) → IsColumnsPoint s zs → IsAtMost (form_value s zs) (form_value s ys)

abbrev pub HasNoColumnsPoint : Std → Type 0
HasNoColumnsPoint s = (ys : List Fraction) → IsColumnsPoint s ys → ⊥

-- allowed values whose value is above a whole number
pub record RisesAbove (s : Std) (n : ℤ) : Type 0 where
  pub ys : List Fraction
  pub allowed : IsColumnsPoint s ys
  pub above : IsBelow (whole n) (form_value s ys)

-- no whole number bounds what is to be maximized
abbrev pub RisesWithoutBound : Std → Type 0
RisesWithoutBound s = (n : ℤ) → RisesAbove s n
