-- A model as a standard form: what is to be maximized over columns that are at least 0, where each row is at most its
-- right side. And the ways back: from columns to variables, and from the rows' and columns' weights to those of the model.
-- What is made of operations ends at the first one that does not fit, in the order in which they stand here.
use Rattle.std.specs.Prelude.{ℕ, suc, ◌+◌, List, [], ◌∷◌, ◌++◌, length, map, flat_map, sum_by, replicate, slice_index_or, slice_set, Option, Some, None, Result, Ok, if◌then◌else◌}
use Rattle.frac128.specs.Checked.{checked_difference, checked_sum, less_product, plus_product, ◌>>=◌}
use Rattle.frac128.specs.Fraction.{Fraction, negation, one_value, zero_value}
use Rattle.frac128.specs.declared.operations.Wide.{Wide}
use Rattle.model_data.specs.Size.{rows_of_sense}
use Rattle.model_data.specs.declared.model.Model.{Model}
use Rattle.model_data.specs.declared.model.Row.{Row}
use Rattle.model_data.specs.declared.model.Sense.{Sense}
use Rattle.model_data.specs.declared.model.Sense.TheVariants.{Less, Greater, Equal}
use Rattle.model_data.specs.declared.model.Term.{Term}
use Rattle.model_data.specs.declared.model.Var.{Var}
use Rattle.model_data.specs.declared.solution.Weight.{Weight}
use Rattle.model_data.specs.declared.solution.Weights.{Weights}
use Rattle.dictionary.specs.Dictionary.{each, numbers_from}
use Rattle.dictionary.specs.declared.standard.Std.{Std}
use Rattle.dictionary.specs.declared.standard.StdRow.{StdRow}
use Rattle.solve_defs.specs.Bounds.{effective_bounds}
use Rattle.solve_defs.specs.Values.{coefficient, is_zero, turned, value_at}
use Rattle.solve_defs.specs.declared.cut.Cut.{Cut}

-- ---- how a variable becomes columns

pub data Shape : Type 0 where
  -- its lower bound and a column, with its upper bound where it has one
  shifted : Fraction → Option Fraction → Shape
  -- its upper bound less a column
  mirrored : Fraction → Shape
  -- a column less another one
  free : Shape

abbrev pub shape_between : Option Fraction → Option Fraction → Shape
shape_between (Some lower) upper = shifted lower upper
shape_between None (Some upper) = mirrored upper
shape_between None None = free

abbrev pub shapes_of : Model → List Cut → List Shape
shapes_of m cuts = map (λ b. shape_between b.lower b.upper) (effective_bounds m cuts)

-- so many columns
abbrev pub width : Shape → ℕ
width (shifted lower upper) = 1
width (mirrored upper) = 1
width free = 2

abbrev pub column_count : List Shape → ℕ
column_count shapes = sum_by width shapes

-- what stands beside the columns
abbrev pub offset : Shape → Option Fraction
offset (shifted lower upper) = Some lower
offset (mirrored upper) = Some upper
offset free = None

-- a variable's coefficient as those of its columns
abbrev pub entries_of : Shape → Fraction → List Fraction
entries_of (shifted lower upper) x = x ∷ []
entries_of (mirrored upper) x = negation x ∷ []
entries_of free x = x ∷ negation x ∷ []

-- the coefficients of all variables as those of all columns
abbrev pub entries : List Shape → List Fraction → List Fraction
entries [] xs = []
entries (shape ∷ shapes) [] = []
entries (shape ∷ shapes) (x ∷ xs) = entries_of shape x ++ entries shapes xs

-- ---- rows

abbrev pub row_entries : List Shape → List Term → List Fraction
row_entries shapes terms = entries shapes (map (coefficient terms) (numbers_from 0 (length shapes)))

-- a right side, where the term's offset moves to it
abbrev pub less_offset : Option Fraction → Fraction → Fraction → Result Fraction Wide
less_offset None coef side = Ok side
less_offset (Some x) coef side = less_product coef side x

-- a right side, where the offsets of all terms move to it
abbrev pub side_less : List Shape → Fraction → List Term → Result Fraction Wide
side_less shapes side [] = Ok side
side_less shapes side (t ∷ terms) = do
  next ← less_offset (offset (slice_index_or shapes t.var free)) t.coef side
  side_less shapes next terms

abbrev pub negated : StdRow → StdRow
negated row = record { coefs = map negation row.coefs; rhs = negation row.rhs }

-- a row by what it says of at most
abbrev pub by_sense : Sense → StdRow → List StdRow
by_sense Less row = row ∷ []
by_sense Greater row = negated row ∷ []
by_sense Equal row = row ∷ negated row ∷ []

abbrev pub rows_of : List Shape → Row → Result (List StdRow) Wide
rows_of shapes row = do
  side ← side_less shapes row.rhs row.terms
  Ok (by_sense row.sense record { coefs = row_entries shapes row.terms; rhs = side })

-- a column, counted from 0, is at most so much
abbrev pub column_row : ℕ → ℕ → Fraction → StdRow
column_row count column most = record { coefs = slice_set (replicate count zero_value) column one_value; rhs = most }

-- the row of a variable with two bounds
abbrev pub span_row : ℕ → ℕ → Shape → Result (List StdRow) Wide
span_row count column (shifted lower (Some upper)) = do
  span ← checked_difference upper lower
  Ok (column_row count column span ∷ [])
span_row count column (shifted lower None) = Ok []
span_row count column (mirrored upper) = Ok []
span_row count column free = Ok []

abbrev pub span_rows : ℕ → ℕ → List Shape → Result (List StdRow) Wide
span_rows count column [] = Ok []
span_rows count column (shape ∷ shapes) = do
  own ← span_row count column shape
  others ← span_rows count (column + width shape) shapes
  Ok (own ++ others)

-- ---- the objective

abbrev pub plus_offset : Option Fraction → Fraction → Fraction → Result Fraction Wide
plus_offset None coef total = Ok total
plus_offset (Some x) coef total = plus_product coef total x

-- the objective's constant, with the offsets of all variables
abbrev pub constant_with : List Shape → Fraction → List Var → Result Fraction Wide
constant_with [] total vars = Ok total
constant_with (shape ∷ shapes) total [] = Ok total
constant_with (shape ∷ shapes) total (v ∷ vars) = do
  next ← plus_offset (offset shape) v.obj total
  constant_with shapes next vars

-- ---- the standard form

-- The rows of the model, then those of the variables with two bounds. The columns are those of the variables in order.
unfoldable pub standard_form : Model → List Cut → Result Std Wide
standard_form m cuts = let shapes = shapes_of m cuts in do
  rows ← each (rows_of shapes) m.rows
  spans ← span_rows (column_count shapes) 0 shapes
  constant ← constant_with shapes m.constant m.vars
  Ok record {
    rows = flat_map (λ same. same) rows ++ spans;
    obj = map (turned m.direction) (entries shapes (map (λ v. v.obj) m.vars));
    constant = turned m.direction constant;
  }

-- ---- back to the variables

-- a variable's value from its first and its second column
abbrev pub point_value : Shape → Fraction → Fraction → Result Fraction Wide
point_value (shifted lower upper) x y = checked_sum lower x
point_value (mirrored upper) x y = checked_difference upper x
point_value free x y = checked_difference x y

-- the same of a direction, to which no offset belongs
abbrev pub ray_value : Shape → Fraction → Fraction → Result Fraction Wide
ray_value (shifted lower upper) x y = Ok x
ray_value (mirrored upper) x y = Ok (negation x)
ray_value free x y = checked_difference x y

-- the variables' values from those of the columns, of which so many stand before
abbrev pub values_from : (Shape → Fraction → Fraction → Result Fraction Wide) → ℕ → List Shape → List Fraction → Result (List Fraction) Wide
values_from value column [] xs = Ok []
values_from value column (shape ∷ shapes) xs = do
  own ← value shape (value_at xs column) (value_at xs (suc column))
  others ← values_from value (column + width shape) shapes xs
  Ok (own ∷ others)

unfoldable pub point_back : List Shape → List Fraction → Result (List Fraction) Wide
point_back shapes xs = values_from point_value 0 shapes xs

unfoldable pub ray_back : List Shape → List Fraction → Result (List Fraction) Wide
ray_back shapes xs = values_from ray_value 0 shapes xs

-- ---- back to weights of the model

-- a row's weight from those of its first and its second row in standard form
abbrev pub row_weight : Sense → Fraction → Fraction → Result Fraction Wide
row_weight Less x y = Ok x
row_weight Greater x y = Ok (negation x)
row_weight Equal x y = checked_difference x y

-- the rows' weights from those in standard form, of which so many stand before
abbrev pub row_weights : ℕ → List Row → List Fraction → Result (List Fraction) Wide
row_weights place [] ys = Ok []
row_weights place (row ∷ rows) ys = do
  own ← row_weight row.sense (value_at ys place) (value_at ys (suc place))
  others ← row_weights (place + rows_of_sense row.sense) rows ys
  Ok (own ∷ others)

-- the lower bound's weight from that of the variable's column
abbrev pub low_weight : Shape → Fraction → Fraction
low_weight (shifted lower upper) x = x
low_weight (mirrored upper) x = zero_value
low_weight free x = zero_value

-- the upper bound's weight from that of the variable's column, or of its own row
abbrev pub up_weight : Shape → Fraction → Fraction → Fraction
up_weight (shifted lower (Some upper)) x y = y
up_weight (shifted lower None) x y = zero_value
up_weight (mirrored upper) x y = x
up_weight free x y = zero_value

abbrev pub low_weights : ℕ → List Shape → List Fraction → List Fraction
low_weights column [] reduced = []
low_weights column (shape ∷ shapes) reduced =
    low_weight shape (value_at reduced column) ∷ low_weights (column + width shape) shapes reduced

-- so many rows
abbrev pub spans_of : Shape → ℕ
spans_of (shifted lower (Some upper)) = 1
spans_of (shifted lower None) = 0
spans_of (mirrored upper) = 0
spans_of free = 0

abbrev pub up_weights : ℕ → ℕ → List Shape → List Fraction → List Fraction → List Fraction
up_weights place column [] ys reduced = []
up_weights place column (shape ∷ shapes) ys reduced =
    up_weight shape (value_at reduced column) (value_at ys place) ∷ up_weights (place + spans_of shape) (column + width shape) shapes ys reduced

-- those that are not 0, with their numbers from this one on
abbrev pub numbered : ℕ → List Fraction → List Weight
numbered number [] = []
numbered number (x ∷ xs) = if is_zero x then numbered (suc number) xs else record { place = number; weight = x } ∷ numbered (suc number) xs

-- the model's weights from those of the rows in standard form and of the columns
unfoldable pub weights_back : Model → List Shape → List Fraction → List Fraction → Result Weights Wide
weights_back m shapes ys reduced = do
  rows ← row_weights 0 m.rows ys
  Ok record {
    rows = numbered 1 rows;
    lows = numbered 1 (low_weights 0 shapes reduced);
    ups = numbered 1 (up_weights (sum_by (λ row. rows_of_sense row.sense) m.rows) 0 shapes ys reduced);
  }
