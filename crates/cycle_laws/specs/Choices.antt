-- What the rule chooses, over exact fractions: the smallest index among the columns that rise, and among the rows that bound most.
use Rattle.std.specs.Prelude.{◌≡◌, ℕ, suc, ◌<◌, ◌≤◌, true, [], length, slice_index, slice_index_or}
use Rattle.frac128.specs.Fraction.{Fraction, exact_quotient}
use Rattle.frac128.specs.Order.{IsAtMost}
use Rattle.dictionary.specs.Dictionary.{Dictionary, entry}
use Rattle.dictionary.specs.Rule.{is_positive, maximized_row}

-- Places of rows and columns are counted from 0 here, columns and rows by number from 1.

-- the entry of the row at this place in column c
abbrev pub entry_at : Dictionary → ℕ → ℕ → Fraction
entry_at d place c = entry (slice_index_or d.rows place []) c

-- how far this row lets the variable of column c rise, where the entry is above 0
abbrev pub ratio_at : Dictionary → ℕ → ℕ → Fraction
ratio_at d c place = exact_quotient (entry_at d place 0) (entry_at d place c)

-- The column's variable makes the maximized row greater, and is the smallest of those that do.
pub record EntersFirst (d : Dictionary) (c : ℕ) : Type 0 where
  pub place : ℕ
  pub is_column : c ≡ suc place
  pub within : place < length d.nonbasic
  pub rises : is_positive (entry (maximized_row d) (suc place)) ≡ true
  pub smallest : (k : ℕ) → k < length d.nonbasic → is_positive (entry (maximized_row d) (suc k)) ≡ true
      → slice_index d.nonbasic place ≤ slice_index d.nonbasic k

-- The row bounds the rise of column c's variable, none bounds it more, and of those that bound it as much its variable is the
-- smallest.
pub record LeavesFirst (d : Dictionary) (c r : ℕ) : Type 0 where
  pub place : ℕ
  pub is_row : r ≡ suc place
  pub within : place < length d.basic
  pub bounds : is_positive (entry_at d place c) ≡ true
  pub least : (k : ℕ) → k < length d.basic → is_positive (entry_at d k c) ≡ true → IsAtMost (ratio_at d c place) (ratio_at d c k)
  pub smallest : (k : ℕ) → k < length d.basic → is_positive (entry_at d k c) ≡ true → IsAtMost (ratio_at d c k) (ratio_at d c place)
      → slice_index d.basic place ≤ slice_index d.basic k
