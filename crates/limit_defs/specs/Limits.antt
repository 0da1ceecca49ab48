-- How many nodes and pivots a solve of a model has at most.
use Rattle.std.specs.Prelude.{◌≡◌, ℕ, ◌+◌, ◌-◌, ◌*◌, ◌≤◌, Bool, false, not, ◌&&◌, [], is_some, sum_by}
use Rattle.std.specs.List.{list_any}
use Rattle.model_data.specs.Size.{is_integer, rows_of_sense}
use Rattle.model_data.specs.declared.model.Model.{Model}
use Rattle.model_data.specs.declared.model.Var.{Var}
use Rattle.model_data.specs.declared.params.Params.{Params}
use Rattle.solve_defs.specs.Bounds.{own_bounds}
use Rattle.solve_defs.specs.StandardForm.{column_count, shapes_of, spans_of}
use Rattle.search_laws.specs.Counts.{ranges_from}
use Rattle.limit_defs.specs.Counts.{pivots_within}

-- ---- nodes

-- It takes whole numbers alone and lacks a bound, with those of its kind, so that nothing limits how often it is split.
abbrev pub is_open : Var → Bool
is_open v = is_integer v.kind && not (is_some (own_bounds v).lower && is_some (own_bounds v).upper)

abbrev pub has_open : Model → Bool
has_open m = list_any is_open m.vars

-- how many leaves the tree has at most: the product, over the variables that take whole numbers alone, of how many of these lie
-- between the bounds
abbrev pub leaves_of : Model → ℕ
leaves_of m = ranges_from 0 m.vars []

-- A tree in which each node is a leaf or has two below it has one node less than twice its leaves.
abbrev pub nodes_of : Model → ℕ
nodes_of m = 2 * leaves_of m - 1

-- ---- pivots

-- the columns of the root's standard form: two for a variable without a bound
abbrev pub root_columns : Model → ℕ
root_columns m = column_count (shapes_of m [])

-- its rows: two for an equality, and one for each variable with two bounds
abbrev pub root_rows : Model → ℕ
root_rows m = sum_by (λ r. rows_of_sense r.sense) m.rows + sum_by spans_of (shapes_of m [])

-- what one relaxation takes at most. Cuts of variables with both bounds add no column and no row.
abbrev pub pivots_of : Model → ℕ
pivots_of m = pivots_within (root_columns m) (root_rows m)

-- what all nodes take together at most
abbrev pub iterations_of : Model → ℕ
iterations_of m = pivots_of m * nodes_of m

-- ---- enough

-- The limit on nodes allows all that there may be.
pub record HasEnoughNodes (m : Model) (p : Params) : Type 0 where
  pub closed : has_open m ≡ false
  pub enough : nodes_of m ≤ p.nodes

-- The limit on pivots allows all that there may be.
pub record HasEnoughPivots (m : Model) (p : Params) : Type 0 where
  pub closed : has_open m ≡ false
  pub enough : iterations_of m ≤ p.iterations
