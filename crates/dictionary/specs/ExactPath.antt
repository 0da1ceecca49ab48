-- A pivot over exact fractions, whatever the size of their parts, and the pivots that the rule makes of them within a phase.
use Rattle.std.specs.Prelude.{◌≡◌, ℕ, zero, suc, ◌-◌, List, [], ◌∷◌, ◌++◌, drop, map, take, Some, option_map, slice_index, slice_set}
use Rattle.frac128.specs.Fraction.{Fraction, exact_difference, exact_product, exact_quotient, exact_sum, negation, one_value}
use Rattle.dictionary.specs.Dictionary.{Dictionary, entry, row_at}
use Rattle.dictionary.specs.Rule.{Ratio, RowAhead, bounding_rows, entering_column, leaving_row}

-- ---- a pivot

-- x - f * y
abbrev pub exact_less : Fraction → Fraction → Fraction → Fraction
exact_less f x y = exact_difference x (exact_product f y)

-- the same of each and its partner, in order
abbrev pub each_less : Fraction → List Fraction → List Fraction → List Fraction
each_less f [] ys = []
each_less f (x ∷ xs) [] = []
each_less f (x ∷ xs) (y ∷ ys) = exact_less f x y ∷ each_less f xs ys

-- the row solved for the variable of column c
unfoldable pub exact_solved_row : ℕ → List Fraction → List Fraction
exact_solved_row c row =
    map (λ x. exact_quotient x (entry row c)) (take c row) ++ exact_quotient one_value (entry row c) ∷ map (λ x. exact_quotient x (entry row c)) (drop (suc c) row)

-- the entries of a row from column 1 on, less f times those of the solved row, where f stood at the place
unfoldable pub exact_eliminated_entries : ℕ → Fraction → List Fraction → List Fraction → List Fraction
exact_eliminated_entries place f solved entries =
    each_less f (take place entries) (take place solved) ++ negation (exact_product f (entry solved place)) ∷ each_less f (drop (suc place) entries) (drop (suc place) solved)

-- a basic variable's row without the variable of column c, for which the other row is solved
unfoldable pub exact_eliminated_basic : ℕ → List Fraction → List Fraction → List Fraction
exact_eliminated_basic c solved row =
    exact_less (entry row c) (entry row 0) (entry solved 0) ∷ exact_eliminated_entries (c - 1) (entry row c) (drop 1 solved) (drop 1 row)

-- the same of an objective
unfoldable pub exact_eliminated_objective : ℕ → List Fraction → List Fraction → List Fraction
exact_eliminated_objective c solved row =
    exact_sum (entry row 0) (exact_product (entry row c) (entry solved 0)) ∷ exact_eliminated_entries (c - 1) (entry row c) (drop 1 solved) (drop 1 row)

-- The variable of column c becomes basic in row r, whose variable takes the column. The entry there is not 0.
unfoldable pub exact_pivot : ℕ → ℕ → Dictionary → Dictionary
exact_pivot r c d = let solved = exact_solved_row c (row_at d.rows r) in record {
  basic = slice_set d.basic (r - 1) (slice_index d.nonbasic (c - 1));
  nonbasic = slice_set d.nonbasic (c - 1) (slice_index d.basic (r - 1));
  rows = map (exact_eliminated_basic c solved) (take (r - 1) d.rows) ++ solved ∷ map (exact_eliminated_basic c solved) (drop r d.rows);
  objective = exact_eliminated_objective c solved d.objective;
  auxiliary = option_map (exact_eliminated_objective c solved) d.auxiliary;
}

-- ---- the rule

abbrev pub exact_ratio : RowAhead → Ratio
exact_ratio row = record { row = row.row; variable = row.variable; value = exact_quotient row.constant row.entry }

-- the ratios of the rows that bound the rise of column c's variable
unfoldable pub exact_ratios : Dictionary → ℕ → List Ratio
exact_ratios d c = map exact_ratio (bounding_rows d c)

-- One pivot by the rule makes e of d.
pub record ExactStep (d e : Dictionary) : Type 0 where
  pub column : ℕ
  pub row : ℕ
  pub enters : entering_column d ≡ Some column
  pub leaves : leaving_row (exact_ratios d column) ≡ Some row
  pub is_pivot : e ≡ exact_pivot row column d

-- So many pivots by the rule lead from the first dictionary to the last, all in one phase.
pub data ExactPath : Dictionary → ℕ → Dictionary → Type 0 where
  here : {d : Dictionary} → ExactPath d zero d
  further : {d e f : Dictionary} {n : ℕ} → ExactPath d n e → ExactStep e f → ExactPath d (suc n) f
