-- How many entries the tableau of a model has at most, its first row and column and those of the first phase with it.
use Rattle.std.specs.Prelude.{ℕ, ◌+◌, ◌*◌, Bool, true, false, ◌&&◌, ◌||◌, is_some, sum_by, if◌then◌else◌}
use Rattle.model_data.specs.declared.model.Model.{Model}
use Rattle.model_data.specs.declared.model.Sense.{Sense}
use Rattle.model_data.specs.declared.model.Sense.TheVariants.{Less, Greater, Equal}
use Rattle.model_data.specs.declared.model.Var.{Var}
use Rattle.model_data.specs.declared.model.VarKind.{VarKind}
use Rattle.model_data.specs.declared.model.VarKind.TheVariants.{Continuous, Integer, Binary}

-- whole numbers only
abbrev pub is_integer : VarKind → Bool
is_integer Continuous = false
is_integer Integer = true
is_integer Binary = true

-- an equality is two conditions
abbrev pub rows_of_sense : Sense → ℕ
rows_of_sense Less = 1
rows_of_sense Greater = 1
rows_of_sense Equal = 2

-- a variable has a row of its own where it is an integer one or has two finite bounds
abbrev pub rows_of_var : Var → ℕ
rows_of_var v = if (is_integer v.kind || (is_some v.lower && is_some v.upper)) then 1 else 0

-- a free variable, with no finite bound, is the difference of two
abbrev pub columns_of_var : Var → ℕ
columns_of_var v = if (is_some v.lower || is_some v.upper) then 1 else 2

abbrev pub row_count : Model → ℕ
row_count m = sum_by (λ r. rows_of_sense r.sense) m.rows + sum_by rows_of_var m.vars

abbrev pub column_count : Model → ℕ
column_count m = sum_by columns_of_var m.vars

abbrev pub size_of : Model → ℕ
size_of m = (row_count m + 2) * (column_count m + 2)
