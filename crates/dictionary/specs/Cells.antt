-- Rows that stand one behind the other in one list.
use Rattle.std.specs.Prelude.{◌≡◌, ℕ, zero, suc, ◌+◌, List, [], ◌∷◌, ◌++◌, length, map, take, drop, Option, option_to_list}
use Rattle.frac128.specs.Fraction.{Fraction}
use Rattle.dictionary.specs.declared.standard.Std.{Std}
use Rattle.dictionary.specs.declared.standard.StdRow.{StdRow}

-- the first rows of a list, so many of one width
abbrev pub rows_of : {A : Type 0} → ℕ → ℕ → List A → List (List A)
rows_of width zero cells = []
rows_of width (suc count) cells = take width cells ∷ rows_of width count (drop width cells)

-- the row that a row of a standard form opens with, where the artificial variable has this entry
abbrev pub opening_row : Option Fraction → StdRow → List Fraction
opening_row artificial row = row.rhs ∷ (row.coefs ++ option_to_list artificial)

-- The form has this objective and so many rows, and the cells are its rows, where the artificial variable has this entry.
pub record AreCellsOf (artificial : Option Fraction) (s : Std) (count : ℕ) (obj : List Fraction) (constant : Fraction) (cells : List Fraction) : Type 0 where
  pub count_is : length s.rows ≡ count
  pub obj_is : s.obj ≡ obj
  pub constant_is : s.constant ≡ constant
  pub rows_are : rows_of (length obj + 1 + length (option_to_list artificial)) count cells ≡ map (opening_row artificial) s.rows
