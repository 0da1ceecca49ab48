-- What is read off the last dictionary of a relaxation, without any operation: a point, weights, a direction.
use Rattle.std.specs.Prelude.{ℕ, suc, ◌+◌, ◌-◌, ◌==◌, List, [], length, map, position, Option, Some, None, unwrap_or, slice_index, if◌then◌else◌}
use Rattle.frac128.specs.Fraction.{Fraction, negation, one_value, zero_value}
use Rattle.dictionary.specs.Dictionary.{Dictionary, entry, numbers_from, row_at}
use Rattle.dictionary.specs.Rule.{entering_column}
use Rattle.solve_defs.specs.Path.{is_phase_one}
use Rattle.solve_defs.specs.declared.solving.Duals.{Duals}
use Rattle.solve_defs.specs.declared.solving.StdRay.{StdRay}

-- how many columns the standard form has: the artificial variable, which has the index 0, is none of them
abbrev pub structural_count : Dictionary → ℕ
structural_count d = if is_phase_one d then length d.nonbasic - 1 else length d.nonbasic

-- the column of a nonbasic variable
abbrev pub column_of : Dictionary → ℕ → Option ℕ
column_of d variable = position (λ v. v == variable) d.nonbasic

-- the row of a basic variable
abbrev pub basic_row : Dictionary → ℕ → Option ℕ
basic_row d variable = position (λ v. v == variable) d.basic

-- ---- the point

abbrev pub value_in : Dictionary → Option ℕ → Fraction
value_in d None = zero_value
value_in d (Some place) = entry (row_at d.rows (suc place)) 0

-- a nonbasic variable is 0, a basic one its row's constant
abbrev pub value_of : Dictionary → ℕ → Fraction
value_of d variable = value_in d (basic_row d variable)

unfoldable pub point_of : Dictionary → List Fraction
point_of d = map (value_of d) (numbers_from 1 (structural_count d))

-- ---- weights

abbrev pub weight_in : List Fraction → Option ℕ → Fraction
weight_in objective None = zero_value
weight_in objective (Some place) = negation (entry objective (suc place))

-- a nonbasic variable weighs its coefficient, negated; a basic one nothing
abbrev pub weight_of : Dictionary → List Fraction → ℕ → Fraction
weight_of d objective variable = weight_in objective (column_of d variable)

-- the weights of the standard form's rows, which are their slacks', and of its columns
abbrev pub duals : Dictionary → List Fraction → Duals
duals d objective = record {
  ys = map (weight_of d objective) (numbers_from (structural_count d + 1) (length d.rows));
  reduced = map (weight_of d objective) (numbers_from 1 (structural_count d));
}

-- at the best point: by z
unfoldable pub dual_of : Dictionary → Duals
dual_of d = duals d d.objective

-- where there is no point: by w
unfoldable pub farkas_of : Dictionary → Duals
farkas_of d = duals d (unwrap_or d.auxiliary [])

-- ---- the direction

abbrev pub rise_in : Dictionary → ℕ → Option ℕ → Fraction
rise_in d c None = zero_value
rise_in d c (Some place) = negation (entry (row_at d.rows (suc place)) c)

-- the variable of column c rises by 1, a basic one by its entry, negated
abbrev pub rise_of : Dictionary → ℕ → ℕ → Fraction
rise_of d c variable = if slice_index d.nonbasic (c - 1) == variable then one_value else rise_in d c (basic_row d variable)

unfoldable pub ray_of : Dictionary → StdRay
ray_of d = record {
  point = point_of d;
  ray = map (rise_of d (unwrap_or (entering_column d) 0)) (numbers_from 1 (structural_count d));
}
