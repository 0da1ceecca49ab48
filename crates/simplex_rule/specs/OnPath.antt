-- The dictionaries that pivots by the rule are made on, and the places of these pivots.
use Rattle.std.specs.Prelude.{◌≢◌, ℕ, ◌<◌, ◌≤◌, length, Ok, pos, Result, unwrap_or}
use Rattle.frac128.specs.Checked.{◌>>=◌}
use Rattle.frac128.specs.declared.operations.Wide.{Wide}
use Rattle.dictionary.specs.Dictionary.{Dictionary, IsUniform, artificial_column, entry, opening, row_at}
use Rattle.dictionary.specs.Rule.{least_row, leaving_row, ratios}
use Rattle.dictionary.specs.Solutions.{HasReducedNumbers}
use Rattle.dictionary.specs.declared.standard.Std.{Std}
use Rattle.solve_defs.specs.Path.{Entering, Path, artificial, by_rule}
use Rattle.simplex_rule.specs.declared.steps.Place.{Place}

-- So many pivots by the rule lead to it from what some standard form opens with.
pub record IsOnPath (d : Dictionary) : Type 0 where
  pub form : Std
  pub uniform : IsUniform form
  pub lowest : HasReducedNumbers form
  pub pivots : ℕ
  pub path : Path (opening form) pivots d

-- A pivot may be made on row r and column c, whether or not it fits.
pub record IsPivotPlace (r c : ℕ) (d : Dictionary) : Type 0 where
  pub row_above : 0 < r
  pub row_within : r ≤ length d.basic
  pub column_above : 0 < c
  pub column_within : c ≤ length d.nonbasic
  pub not_zero : (entry (row_at d.rows r) c).num ≢ pos 0

-- where this variable enters; by the rule behind the ratios
abbrev pub place_of : Entering → Dictionary → Result Place Wide
place_of artificial d = Ok record { row = unwrap_or (least_row d) 0; column = artificial_column d }
place_of (by_rule c) d = do
  formed ← ratios d c
  Ok record { row = unwrap_or (leaving_row formed) 0; column = c }
