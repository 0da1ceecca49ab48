-- Dictionaries of the simplex method: the one that a standard form opens with, a pivot, and the end of phase one.
-- What is made of operations ends at the first one that does not fit, in the order in which they stand here.
use Rattle.std.specs.Prelude.{◌≡◌, ◌+◌, IfSome, ℕ, ◌^◌, ◌<◌, ◌≤◌, All, Err, is_some, zero, suc, ◌-◌, ◌==◌, List, [], ◌∷◌, ◌++◌, take, drop, length, map, remove, replicate, slice_index, slice_index_or, slice_set, Bool, if◌then◌else◌, Option, Some, None, Result, Ok}
use Rattle.std.specs.List.{list_any, position_or_len}
use Rattle.frac128.specs.Checked.{checked_product, checked_quotient, less_product, plus_product, ◌>>=◌}
use Rattle.frac128.specs.Fraction.{Fraction, negation, one_value, zero_value}
use Rattle.frac128.specs.Numbers.{is_below_zero}
use Rattle.frac128.specs.declared.operations.Wide.{Wide}
use Rattle.dictionary.specs.declared.standard.Std.{Std}

-- Each variable has an index. A basic one is its row's constant less the sum of each entry times its column's variable.
-- The objective z and, in phase one, the auxiliary objective w are their constant and the sum of each coefficient times
-- its column's variable. In each list of fractions the constant stands first, as column 0. Columns and rows are numbered
-- from 1.
pub record Dictionary : Type 0 where
  -- the variable of each row
  pub basic : List ℕ
  -- the variable of each column
  pub nonbasic : List ℕ
  pub rows : List (List Fraction)
  pub objective : List Fraction
  pub auxiliary : Option (List Fraction)

-- the entry of a row in column c
abbrev pub entry : List Fraction → ℕ → Fraction
entry row c = slice_index_or row c zero_value

-- the row by number
abbrev pub row_at : List (List Fraction) → ℕ → List Fraction
row_at rows r = slice_index_or rows (r - 1) []

-- how many rows there are with z and, in phase one, w behind the basic variables' rows
abbrev pub line_count : Dictionary → ℕ
line_count d = if is_some d.auxiliary then length d.basic + 2 else length d.basic + 1

-- Each basic variable has a row, and each row an entry for each column. The limits are those of a standard form, with a
-- column more.
pub record IsInShape (d : Dictionary) : Type 0 where
  pub rows : length d.rows ≡ length d.basic
  pub row_entries : All (λ row. length row ≡ suc (length d.nonbasic)) d.rows
  pub objective_entries : length d.objective ≡ suc (length d.nonbasic)
  pub auxiliary_entries : IfSome d.auxiliary (λ row. length row ≡ suc (length d.nonbasic))
  pub row_limit : length d.basic < 2 ^ 31
  pub column_limit : length d.nonbasic ≤ 2 ^ 31

-- no row or column has come or gone
pub record HasSameSizes (old new : Dictionary) : Type 0 where
  pub rows : length new.basic ≡ length old.basic
  pub columns : length new.nonbasic ≡ length old.nonbasic
  pub phase : is_some new.auxiliary ≡ is_some old.auxiliary

-- what a call has answered, where its success stands for what it left in place
abbrev pub with_value : {U A E : Type 0} → Result U E → A → Result A E
with_value (Ok _) a = Ok a
with_value (Err e) a = Err e

-- ---- the dictionary at the start

-- Each row has as many coefficients as the objective, and so many rows and columns can be numbered.
pub record IsUniform (s : Std) : Type 0 where
  pub coefs : All (λ row. length row.coefs ≡ length s.obj) s.rows
  pub row_limit : length s.rows < 2 ^ 31
  pub column_limit : length s.obj < 2 ^ 31

-- so many numbers, from the first on
abbrev pub numbers_from : ℕ → ℕ → List ℕ
numbers_from first zero = []
numbers_from first (suc count) = first ∷ numbers_from (suc first) count

abbrev pub is_negative : Fraction → Bool
is_negative x = is_below_zero x.num

-- some right side is below 0, so that not all of x = 0 is feasible
abbrev pub needs_phase_one : Std → Bool
needs_phase_one s = list_any (λ row. is_negative row.rhs) s.rows

-- Structural variables have the indices from 1 on, slacks those behind them.
unfoldable pub without_artificial : Std → Dictionary
without_artificial s = record {
  basic = numbers_from (suc (length s.obj)) (length s.rows);
  nonbasic = numbers_from 1 (length s.obj);
  rows = map (λ row. row.rhs ∷ row.coefs) s.rows;
  objective = s.constant ∷ s.obj;
  auxiliary = None;
}

-- The artificial variable has the index 0 and the last column: it is taken from each left side, and w is its negation.
unfoldable pub with_artificial : Dictionary → Dictionary
with_artificial d = record {
  basic = d.basic;
  nonbasic = d.nonbasic ++ 0 ∷ [];
  rows = map (λ row. row ++ negation one_value ∷ []) d.rows;
  objective = d.objective ++ zero_value ∷ [];
  auxiliary = Some (replicate (length d.objective) zero_value ++ negation one_value ∷ []);
}

unfoldable pub opening : Std → Dictionary
opening s = if needs_phase_one s then with_artificial (without_artificial s) else without_artificial s

-- ---- a pivot

-- what f makes of each, in order
abbrev pub each : {A B E : Type 0} → (A → Result B E) → List A → Result (List B) E
each f [] = Ok []
each f (x ∷ xs) = do
  y ← f x
  ys ← each f xs
  Ok (y ∷ ys)

-- what f makes of each and its partner, in order
abbrev pub each_pair : {A B C E : Type 0} → (A → B → Result C E) → List A → List B → Result (List C) E
each_pair f [] ys = Ok []
each_pair f (x ∷ xs) [] = Ok []
each_pair f (x ∷ xs) (y ∷ ys) = do
  z ← f x y
  zs ← each_pair f xs ys
  Ok (z ∷ zs)

-- what f makes of the value, where there is one
abbrev pub each_option : {A B E : Type 0} → (A → Result B E) → Option A → Result (Option B) E
each_option f None = Ok None
each_option f (Some x) = do
  y ← f x
  Ok (Some y)

-- The row solved for the variable of column c: all but the entry p of this column is divided by p, and last this entry
-- becomes 1 / p.
unfoldable pub solved_row : ℕ → List Fraction → Result (List Fraction) Wide
solved_row c row = do
  left ← each (λ x. checked_quotient x (entry row c)) (take c row)
  right ← each (λ x. checked_quotient x (entry row c)) (drop (suc c) row)
  own ← checked_quotient one_value (entry row c)
  Ok (left ++ own ∷ right)

-- The entries of a row from column 1 on, less f times those of the solved row, where f stood at the place. Last f becomes
-- -(f * the solved row's entry there).
unfoldable pub eliminated_entries : ℕ → Fraction → List Fraction → List Fraction → Result (List Fraction) Wide
eliminated_entries place f solved entries = do
  left ← each_pair (less_product f) (take place entries) (take place solved)
  right ← each_pair (less_product f) (drop (suc place) entries) (drop (suc place) solved)
  own ← checked_product f (entry solved place)
  Ok (left ++ negation own ∷ right)

-- A basic variable's row without the variable of column c, for which the other row is solved.
unfoldable pub eliminated_basic : ℕ → List Fraction → List Fraction → Result (List Fraction) Wide
eliminated_basic c solved row = do
  constant ← less_product (entry row c) (entry row 0) (entry solved 0)
  entries ← eliminated_entries (c - 1) (entry row c) (drop 1 solved) (drop 1 row)
  Ok (constant ∷ entries)

-- The same of an objective: what the solved row's constant brings is added.
unfoldable pub eliminated_objective : ℕ → List Fraction → List Fraction → Result (List Fraction) Wide
eliminated_objective c solved row = do
  constant ← plus_product (entry row c) (entry row 0) (entry solved 0)
  entries ← eliminated_entries (c - 1) (entry row c) (drop 1 solved) (drop 1 row)
  Ok (constant ∷ entries)

-- Row r is solved for the variable of column c, and then the others by number lose it.
unfoldable pub pivoted_rows : ℕ → ℕ → List (List Fraction) → Result (List (List Fraction)) Wide
pivoted_rows r c rows = do
  solved ← solved_row c (row_at rows r)
  above ← each (eliminated_basic c solved) (take (r - 1) rows)
  below ← each (eliminated_basic c solved) (drop r rows)
  Ok (above ++ solved ∷ below)

-- The variable of column c becomes basic in row r, whose variable takes the column. The entry there is not 0.
unfoldable pub pivot : ℕ → ℕ → Dictionary → Result Dictionary Wide
pivot r c d = do
  rows ← pivoted_rows r c d.rows
  objective ← eliminated_objective c (row_at rows r) d.objective
  auxiliary ← each_option (eliminated_objective c (row_at rows r)) d.auxiliary
  Ok record {
    basic = slice_set d.basic (r - 1) (slice_index d.nonbasic (c - 1));
    nonbasic = slice_set d.nonbasic (c - 1) (slice_index d.basic (r - 1));
    rows = rows;
    objective = objective;
    auxiliary = auxiliary;
  }

-- ---- the end of phase one

-- the column of the artificial variable, where it is nonbasic
abbrev pub artificial_column : Dictionary → ℕ
artificial_column d = suc (position_or_len (λ variable. variable == 0) d.nonbasic)

-- without w and the artificial variable's column
unfoldable pub end_phase_one : Dictionary → Dictionary
end_phase_one d = let c = artificial_column d in record {
  basic = d.basic;
  nonbasic = remove d.nonbasic (c - 1);
  rows = map (λ row. remove row c) d.rows;
  objective = remove d.objective c;
  auxiliary = None;
}
