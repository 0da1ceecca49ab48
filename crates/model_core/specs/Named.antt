-- What stands in a model under a name or a tag, and where.
use Rattle.std.specs.Prelude.{ℕ, Bool, false, List, bytes_eq}
use Rattle.std.specs.List.{list_any, position_or_len}
use Rattle.std.specs.Option.{option_map_or}
use Rattle.model_data.specs.declared.model.Model.{Model}
use Rattle.model_data.specs.declared.model.Row.{Row}
use Rattle.model_data.specs.declared.model.Var.{Var}

abbrev pub is_var : List ℕ → Var → Bool
is_var name v = bytes_eq name v.name

abbrev pub is_row : List ℕ → Row → Bool
is_row name r = bytes_eq name r.name

abbrev pub has_tag : List ℕ → Var → Bool
has_tag tag v = option_map_or (bytes_eq tag) v.tag false

abbrev pub knows_var : List ℕ → Model → Bool
knows_var name m = list_any (is_var name) m.vars

abbrev pub knows_row : List ℕ → Model → Bool
knows_row name m = list_any (is_row name) m.rows

abbrev pub knows_tag : List ℕ → Model → Bool
knows_tag tag m = list_any (has_tag tag) m.vars

-- by which the terms name the variable
abbrev pub var_place : List ℕ → Model → ℕ
var_place name m = position_or_len (is_var name) m.vars
