-- One pass over columns or rows by number, which keeps the best so far.
use Rattle.std.specs.Prelude.{ℕ, ◌-◌, Bool, nat_lt, List, [], ◌∷◌, Option, Some, None, Result, Ok, if◌then◌else◌, slice_index}
use Rattle.frac128.specs.Checked.{◌>>=◌}
use Rattle.frac128.specs.declared.operations.Wide.{Wide}
use Rattle.dictionary.specs.Dictionary.{Dictionary, entry, row_at}
use Rattle.dictionary.specs.Rule.{Column, Ratio, RowAhead, is_positive, leaves_before, leaving_row, maximized_row, ratio_of, ratios}

-- the column by number
abbrev pub column_at : Dictionary → ℕ → Column
column_at d c = record { column = c; variable = slice_index d.nonbasic (c - 1); coefficient = entry (maximized_row d) c }

-- the row by number, with its entry in column c
abbrev pub row_ahead : Dictionary → ℕ → ℕ → RowAhead
row_ahead d c r = record { row = r; variable = slice_index d.basic (r - 1); constant = entry (row_at d.rows r) 0; entry = entry (row_at d.rows r) c }

-- the better of the two, the earlier one where neither is
abbrev pub kept_best : {A : Type 0} → (A → A → Bool) → Option A → A → A
kept_best beats None x = x
kept_best beats (Some b) x = if beats x b then x else b

-- only what passes counts
abbrev pub best_with : {A : Type 0} → (A → Bool) → (A → A → Bool) → Option A → A → Option A
best_with passes beats best x = if passes x then Some (kept_best beats best x) else best

abbrev pub smaller_variable : Column → Column → Bool
smaller_variable x y = nat_lt x.variable y.variable

-- with a row whose ratio is formed where the row bounds the rise
abbrev pub nearest_with : Option Ratio → RowAhead → Result (Option Ratio) Wide
nearest_with best row = if is_positive row.entry then (do
  x ← ratio_of row
  Ok (Some (kept_best leaves_before best x))) else Ok best

-- one pass where a step may stop
abbrev pub passed : {A B E : Type 0} → (B → A → Result B E) → B → List A → Result B E
passed f b [] = Ok b
passed f b (x ∷ xs) = do
  c ← f b x
  passed f c xs

-- the leaving variable's row, behind the ratios
abbrev pub leaving : Dictionary → ℕ → Result (Option ℕ) Wide
leaving d c = do
  formed ← ratios d c
  Ok (leaving_row formed)
