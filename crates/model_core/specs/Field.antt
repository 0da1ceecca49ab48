-- A list with one item changed, and a variable or a row with one field changed.
use Rattle.std.specs.Prelude.{ℕ, List, set, slice_get, Some}
use Rattle.std.specs.Option.{option_map_or}
use Rattle.model_data.specs.declared.model.Row.{Row}
use Rattle.model_data.specs.declared.model.Var.{Var}
use Rattle.model_core.specs.declared.fields.RowField.{RowField}
use Rattle.model_core.specs.declared.fields.RowField.TheVariants.{Rhs, Sense}
use Rattle.model_core.specs.declared.fields.VarField.{VarField}
use Rattle.model_core.specs.declared.fields.VarField.TheVariants.{Kind, Lower, Objective, Upper}

abbrev pub at_place : {X : Type 0} → ℕ → (X → X) → List X → List X
at_place place change xs = option_map_or (λ x. set xs place (change x)) (slice_get xs place) xs

abbrev pub with_var_field : VarField → Var → Var
with_var_field (Lower bound) v = record v { lower = bound }
with_var_field (Upper bound) v = record v { upper = bound }
with_var_field (Objective x) v = record v { obj = x }
with_var_field (Kind kind) v = record v { kind = kind }

abbrev pub with_row_field : RowField → Row → Row
with_row_field (Rhs x) r = record r { rhs = x }
with_row_field (Sense sense) r = record r { sense = sense }

abbrev pub with_tag : (tag : List ℕ) → Var → Var
with_tag tag v = record v { tag = Some tag }
