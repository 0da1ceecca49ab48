-- What a dictionary says of values of its variables: which of them it allows, and what the objectives are there.
use Rattle.std.specs.Prelude.{◌≡◌, ◌≢◌, ℕ, ◌-◌, ◌<◌, ◌≤◌, ◌==◌, All, AllPairs, IfSome, List, [], ◌∷◌, ◌++◌, drop, length, slice_index, slice_index_or, if◌then◌else◌, Option, Some, option_map, Ok, pos}
use Rattle.std.specs.List.{position_or_len}
use Rattle.frac128.specs.Fraction.{Fraction, exact_difference, exact_product, exact_sum, negation, zero_value}
use Rattle.frac128.specs.Lowest.{IsInLowestTerms}
use Rattle.frac128.specs.Order.{IsAtMost, IsBelow}
use Rattle.dictionary.specs.declared.standard.Std.{Std}
use Rattle.dictionary.specs.Dictionary.{Dictionary, IsInShape, entry, pivot, row_at}
use Rattle.dictionary.specs.Rule.{Ratio, entering_column, leaving_row, ratios}

-- ---- points and solutions

-- a value for each variable, by index
abbrev pub Point : Type 0
Point = ℕ → Fraction

-- the sum of each coefficient times its variable's value
abbrev pub sum_at : Point → List ℕ → List Fraction → Fraction
sum_at x [] coefs = zero_value
sum_at x (v ∷ vs) [] = zero_value
sum_at x (v ∷ vs) (a ∷ coefs) = exact_sum (exact_product a (x v)) (sum_at x vs coefs)

-- what a row's entries and their columns' variables add up to
abbrev pub columns_at : Dictionary → Point → List Fraction → Fraction
columns_at d x row = sum_at x d.nonbasic (drop 1 row)

-- what a row tells of its basic variable: its constant less what the columns add up to
abbrev pub told_at : Dictionary → Point → List Fraction → Fraction
told_at d x row = exact_difference (entry row 0) (columns_at d x row)

-- The point is a solution: its values are in lowest terms, and each basic variable is what its row tells.
pub record Solves (d : Dictionary) (x : Point) : Type 0 where
  pub reduced : (v : ℕ) → IsInLowestTerms (x v)
  pub rows : (r : ℕ) → 0 < r → r ≤ length d.basic → x (slice_index d.basic (r - 1)) ≡ told_at d x (row_at d.rows r)

-- an objective's constant and what the columns add up to
abbrev pub total_at : Dictionary → Point → List Fraction → Fraction
total_at d x row = exact_sum (entry row 0) (columns_at d x row)

-- z at a point
abbrev pub objective_at : Dictionary → Point → Fraction
objective_at d x = total_at d x d.objective

-- w at a point, in phase one
abbrev pub auxiliary_at : Dictionary → Point → Option Fraction
auxiliary_at d x = option_map (total_at d x) d.auxiliary

-- a solution where no variable is below 0
pub record IsFeasible (d : Dictionary) (x : Point) : Type 0 where
  pub solves : Solves d x
  pub at_least_zero : (v : ℕ) → IsAtMost zero_value (x v)

-- A dictionary's own point: a basic variable is its row's constant, and each other one 0.
abbrev pub own_point : Dictionary → Point
own_point d v = entry (slice_index_or d.rows (position_or_len (λ b. b == v) d.basic) []) 0

-- ---- lawful dictionaries and their pivots

-- Each number of a dictionary is in lowest terms.
pub record HasReducedEntries (d : Dictionary) : Type 0 where
  pub rows : All (All IsInLowestTerms) d.rows
  pub objective : All IsInLowestTerms d.objective
  pub auxiliary : IfSome d.auxiliary (All IsInLowestTerms)

-- A dictionary in shape, with numbers in lowest terms, where no variable stands twice.
pub record IsLawful (d : Dictionary) : Type 0 where
  pub shape : IsInShape d
  pub reduced : HasReducedEntries d
  pub distinct : AllPairs (λ v w. v ≢ w) (d.basic ++ d.nonbasic)

-- Each number of a standard form is in lowest terms.
pub record HasReducedNumbers (s : Std) : Type 0 where
  pub coefs : All (λ row. All IsInLowestTerms row.coefs) s.rows
  pub sides : All (λ row. IsInLowestTerms row.rhs) s.rows
  pub obj : All IsInLowestTerms s.obj
  pub constant : IsInLowestTerms s.constant

-- A pivot on row r and column c, whose entry there is not 0, makes e of d.
pub record Pivots (r c : ℕ) (d e : Dictionary) : Type 0 where
  pub row_above : 0 < r
  pub row_within : r ≤ length d.basic
  pub column_above : 0 < c
  pub column_within : c ≤ length d.nonbasic
  pub not_zero : (entry (row_at d.rows r) c).num ≢ pos 0
  pub is_pivot : pivot r c d ≡ Ok e

-- By the rule, row r leaves for column c, and the pivot makes e of d.
pub record PivotsByRule (r c : ℕ) (d e : Dictionary) : Type 0 where
  pub enters : entering_column d ≡ Some c
  pub compared : List Ratio
  pub are_ratios : ratios d c ≡ Ok compared
  pub leaves : leaving_row compared ≡ Some r
  pub is_pivot : pivot r c d ≡ Ok e

-- ---- what the signs of constants and coefficients tell

-- No row's constant is below 0, so that the own point is feasible.
abbrev pub HasFeasibleConstants : Dictionary → Type 0
HasFeasibleConstants d = All (λ row. IsAtMost zero_value (entry row 0)) d.rows

-- No coefficient is above 0, so that no column's variable makes the row greater.
abbrev pub HasNoRise : List Fraction → Type 0
HasNoRise row = All (λ a. IsAtMost a zero_value) (drop 1 row)

-- A column whose variable makes z greater, and no basic variable less.
pub record RisesFreely (c : ℕ) (d : Dictionary) : Type 0 where
  pub above : 0 < c
  pub within : c ≤ length d.nonbasic
  pub rise : IsBelow zero_value (entry d.objective c)
  pub free : All (λ row. IsAtMost (entry row c) zero_value) d.rows

-- ---- the artificial variable

-- At each solution w is minus the artificial variable, whose index is 0.
pub record IsPhaseOne (d : Dictionary) : Type 0 where
  pub is_negation : (x : Point) → Solves d x → auxiliary_at d x ≡ Some (negation (x 0))

-- No variable of the dictionary has the index of the artificial one.
abbrev pub HasNoArtificial : Dictionary → Type 0
HasNoArtificial d = All (λ v. v ≢ 0) (d.basic ++ d.nonbasic)

-- a point with the artificial variable put to 0
abbrev pub without_artificial_value : Point → Point
without_artificial_value x v = if v == 0 then zero_value else x v
