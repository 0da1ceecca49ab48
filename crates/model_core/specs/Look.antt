-- What a model answers to a question by name.
use Rattle.std.specs.Prelude.{ℕ, List, [], ◌∷◌, ◌==◌, Option, Some, None, if◌then◌else◌}
use Rattle.frac128.specs.Fraction.{Fraction, zero_value}
use Rattle.model_data.specs.declared.model.Model.{Model}
use Rattle.model_data.specs.declared.model.Row.{Row}
use Rattle.model_data.specs.declared.model.Term.{Term}
use Rattle.model_data.specs.declared.model.Var.{Var}
use Rattle.model_core.specs.Named.{is_row, is_var, knows_var, var_place}

-- the first item of the name; names differ in a lawful model
abbrev pub find_var : List ℕ → List Var → Option Var
find_var name [] = None
find_var name (v ∷ vars) = if is_var name v then Some v else find_var name vars

abbrev pub find_row : List ℕ → List Row → Option Row
find_row name [] = None
find_row name (r ∷ rows) = if is_row name r then Some r else find_row name rows

abbrev pub var_of : List ℕ → Model → Option Var
var_of name m = find_var name m.vars

abbrev pub row_of : List ℕ → Model → Option Row
row_of name m = find_row name m.rows

-- the coefficient of the variable at the place, 0 where it has no term
abbrev pub coefficient_in : ℕ → List Term → Fraction
coefficient_in place [] = zero_value
coefficient_in place (t ∷ terms) = if t.var == place then t.coef else coefficient_in place terms

abbrev pub coefficient_of_row : (var : List ℕ) → Model → Option Row → Option Fraction
coefficient_of_row var m None = None
coefficient_of_row var m (Some r) = if knows_var var m then Some (coefficient_in (var_place var m) r.terms) else None

-- the coefficient of a variable in a row; none where one of the two isn't there
abbrev pub coefficient_at : (row var : List ℕ) → Model → Option Fraction
coefficient_at row var m = coefficient_of_row var m (row_of row m)
