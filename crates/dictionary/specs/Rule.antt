-- The rule by which variables enter and leave: the smallest index among those that may.
use Rattle.std.specs.Prelude.{ℕ, suc, nat_lt, Bool, true, false, List, [], ◌∷◌, drop, filter, Option, Some, None, option_map, unwrap_or, Result, Ok, ℤ, pos, negsuc}
use Rattle.std.specs.List.{best_of}
use Rattle.std.specs.declared.cmp.Ordering.{Ordering}
use Rattle.std.specs.declared.cmp.Ordering.TheVariants.{Equal, Greater, Less}
use Rattle.frac128.specs.Checked.{checked_quotient, ◌>>=◌}
use Rattle.frac128.specs.Fraction.{Fraction}
use Rattle.frac128.specs.Order.{order_of}
use Rattle.frac128.specs.declared.operations.Wide.{Wide}
use Rattle.dictionary.specs.Dictionary.{Dictionary, each, entry}

abbrev pub is_above_zero : ℤ → Bool
is_above_zero (pos n) = nat_lt 0 n
is_above_zero (negsuc _) = false

abbrev pub is_positive : Fraction → Bool
is_positive x = is_above_zero x.num

-- the first that none of the others goes before
abbrev pub best_among : {A : Type 0} → (A → A → Bool) → List A → Option A
best_among goes_before [] = None
best_among goes_before (x ∷ xs) = Some (best_of goes_before x xs)

-- ---- which variable enters

-- the row that is maximized: w in phase one, else z
abbrev pub maximized_row : Dictionary → List Fraction
maximized_row d = unwrap_or d.auxiliary d.objective

-- a column by number, with its variable and its coefficient in the row that is maximized
pub record Column : Type 0 where
  pub column : ℕ
  pub variable : ℕ
  pub coefficient : Fraction

abbrev pub columns_from : ℕ → List ℕ → List Fraction → List Column
columns_from c [] coefficients = []
columns_from c (v ∷ vs) [] = []
columns_from c (v ∷ vs) (x ∷ xs) = record { column = c; variable = v; coefficient = x } ∷ columns_from (suc c) vs xs

abbrev pub columns_of : Dictionary → List Column
columns_of d = columns_from 1 d.nonbasic (drop 1 (maximized_row d))

-- the column of the entering variable, which has the smallest index among those whose rise makes the maximized row greater
unfoldable pub entering_column : Dictionary → Option ℕ
entering_column d =
    option_map (λ c. c.column) (best_among (λ x y. nat_lt x.variable y.variable) (filter (λ c. is_positive c.coefficient) (columns_of d)))

-- ---- which variable leaves

-- a row by number, with its basic variable, its constant and its entry in a column
pub record RowAhead : Type 0 where
  pub row : ℕ
  pub variable : ℕ
  pub constant : Fraction
  pub entry : Fraction

abbrev pub rows_from : ℕ → ℕ → List ℕ → List (List Fraction) → List RowAhead
rows_from c r [] rows = []
rows_from c r (v ∷ vs) [] = []
rows_from c r (v ∷ vs) (row ∷ rows) =
    record { row = r; variable = v; constant = entry row 0; entry = entry row c } ∷ rows_from c (suc r) vs rows

-- the rows that bound the rise of column c's variable
abbrev pub bounding_rows : Dictionary → ℕ → List RowAhead
bounding_rows d c = filter (λ row. is_positive row.entry) (rows_from c 1 d.basic d.rows)

-- how far such a row lets it rise
pub record Ratio : Type 0 where
  pub row : ℕ
  pub variable : ℕ
  pub value : Fraction

abbrev pub ratio_of : RowAhead → Result Ratio Wide
ratio_of row = do
  value ← checked_quotient row.constant row.entry
  Ok record { row = row.row; variable = row.variable; value = value }

-- the ratios, formed by row number
unfoldable pub ratios : Dictionary → ℕ → Result (List Ratio) Wide
ratios d c = each ratio_of (bounding_rows d c)

-- the smaller ratio leaves first, among equal ones the smaller index
abbrev pub leaves_before_by : Ordering → Ratio → Ratio → Bool
leaves_before_by Less x y = true
leaves_before_by Equal x y = nat_lt x.variable y.variable
leaves_before_by Greater x y = false

abbrev pub leaves_before : Ratio → Ratio → Bool
leaves_before x y = leaves_before_by (order_of x.value y.value) x y

-- the row of the leaving variable, where some row bounds the rise
unfoldable pub leaving_row : List Ratio → Option ℕ
leaving_row ratios = option_map (λ ratio. ratio.row) (best_among leaves_before ratios)

-- ---- the first pivot of phase one, by which the artificial variable enters

-- the sides of the rows by number, smallest first
abbrev pub side_before : RowAhead → RowAhead → Bool
side_before x y = is_less (order_of x.constant y.constant)
  where
    is_less : Ordering → Bool
    is_less Less = true
    is_less Equal = false
    is_less Greater = false

-- the row with the least constant, the first of these
unfoldable pub least_row : Dictionary → Option ℕ
least_row d = option_map (λ row. row.row) (best_among side_before (rows_from 0 1 d.basic d.rows))
