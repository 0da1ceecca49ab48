-- How a bound is told: by its number, where a limit of a solve can be as great.
use Rattle.std.specs.Prelude.{ℕ, Option, Some, None, nat_le, if◌then◌else◌}
use Rattle.model_data.specs.declared.limits.TheConstants.{MAX_NODES}
use Rattle.model_data.specs.declared.model.Model.{Model}
use Rattle.model_data.specs.declared.model.Var.{Var}
use Rattle.search_laws.specs.Counts.{range_of}
use Rattle.solve_defs.specs.Bounds.{own_bounds}
use Rattle.solve_defs.specs.StandardForm.{shape_between, spans_of, width}
use Rattle.limit_defs.specs.Limits.{has_open, is_open, nodes_of}
use Rattle.enough_limits.specs.declared.nodes.Nodes.{Nodes}
use Rattle.enough_limits.specs.declared.nodes.Nodes.TheVariants.{Bound, Over, Open}

-- the number, where it is at most so much
abbrev pub limited : (most n : ℕ) → Option ℕ
limited most n = if nat_le n most then Some n else None

abbrev pub node_bound : Model → Nodes
node_bound m = if has_open m then Open else (if nat_le (nodes_of m) MAX_NODES then Bound (nodes_of m) else Over)

-- how many whole numbers lie between the variable's bounds, where it isn't open
abbrev pub closed_range : Var → Option ℕ
closed_range v = if is_open v then None else Some (range_of v (own_bounds v))

-- the rows of a variable in the root's standard form
abbrev pub rows_of_var : Var → ℕ
rows_of_var v = spans_of (shape_between (own_bounds v).lower (own_bounds v).upper)

-- its columns
abbrev pub columns_of_var : Var → ℕ
columns_of_var v = width (shape_between (own_bounds v).lower (own_bounds v).upper)
