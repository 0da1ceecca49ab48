-- The simplex method on one relaxation: from a dictionary to the next one by the rule, and where this ends.
use Rattle.std.specs.Prelude.{◌≡◌, ℕ, zero, suc, ◌+◌, ◌*◌, ◌==◌, Bool, not, ◌&&◌, length, Option, Some, None, is_some, is_none, unwrap_or, Result, Ok, if◌then◌else◌}
use Rattle.std.specs.List.{list_any}
use Rattle.frac128.specs.Checked.{◌>>=◌}
use Rattle.frac128.specs.declared.operations.Wide.{Wide}
use Rattle.dictionary.specs.Dictionary.{Dictionary, artificial_column, end_phase_one, entry, is_negative, pivot}
use Rattle.dictionary.specs.Rule.{entering_column, is_positive, least_row, leaving_row, ratios}
use Rattle.solve_defs.specs.declared.solving.LpEnd.{LpEnd}
use Rattle.solve_defs.specs.declared.solving.LpEnd.TheVariants.{Best, NoPoint, Unbounded}

-- ---- what comes next

abbrev pub is_phase_one : Dictionary → Bool
is_phase_one d = is_some d.auxiliary

-- Phase one opens with some constant below 0. The artificial variable's pivot leaves none, nor does any pivot behind it.
abbrev pub awaits_artificial : Dictionary → Bool
awaits_artificial d = is_phase_one d && list_any (λ row. is_negative (entry row 0)) d.rows

-- some row bounds the rise of the column's variable
abbrev pub is_bounded : Dictionary → ℕ → Bool
is_bounded d c = list_any (λ row. is_positive (entry row c)) d.rows

-- the variable that is to enter: the artificial one, or by the rule that of a column
pub data Entering : Type 0 where
  artificial : Entering
  by_rule : ℕ → Entering

pub data Coming : Type 0 where
  a_pivot : Entering → Coming
  an_end : LpEnd → Coming

-- In phase one w is at most 0, so that some row bounds each rise; there only the end without a point comes.
abbrev pub coming_by_rule : Dictionary → Option ℕ → Coming
coming_by_rule d None = if is_phase_one d then an_end NoPoint else an_end Best
coming_by_rule d (Some c) = if is_bounded d c then a_pivot (by_rule c) else an_end Unbounded

unfoldable pub coming : Dictionary → Coming
coming d = if awaits_artificial d then a_pivot artificial else coming_by_rule d (entering_column d)

-- ---- one pivot

abbrev pub is_basic : ℕ → Dictionary → Bool
is_basic variable d = list_any (λ v. v == variable) d.basic

-- w has reached its best, and the artificial variable is nonbasic, so 0
abbrev pub is_phase_one_over : Dictionary → Bool
is_phase_one_over d = is_phase_one d && not (awaits_artificial d) && is_none (entering_column d) && not (is_basic 0 d)

-- without phase one where it is over
unfoldable pub settled : Dictionary → Dictionary
settled d = if is_phase_one_over d then end_phase_one d else d

-- The artificial variable takes the row with the least constant. By the rule the ratios are formed first, and the row follows from them.
abbrev pub pivoted : Entering → Dictionary → Result Dictionary Wide
pivoted artificial d = pivot (unwrap_or (least_row d) 0) (artificial_column d) d
pivoted (by_rule c) d = do
  formed ← ratios d c
  pivot (unwrap_or (leaving_row formed) 0) c d

-- the dictionary after the pivot, in phase two where phase one is over
unfoldable pub next : Entering → Dictionary → Result Dictionary Wide
next entering d = do
  e ← pivoted entering d
  Ok (settled e)

-- how many entries a dictionary has: the work of a pivot on it
abbrev pub entry_count : Dictionary → ℕ
entry_count d = (length d.rows + (if is_phase_one d then 2 else 1)) * (length d.nonbasic + 1)

-- ---- the path

-- One pivot by the rule leads from d to e.
pub record LeadsTo (d e : Dictionary) : Type 0 where
  pub entering : Entering
  pub comes : coming d ≡ a_pivot entering
  pub gives : next entering d ≡ Ok e

-- So many pivots by the rule lead from the first dictionary to the last.
pub data Path : Dictionary → ℕ → Dictionary → Type 0 where
  here : {d : Dictionary} → Path d zero d
  further : {d e f : Dictionary} {n : ℕ} → Path d n e → LeadsTo e f → Path d (suc n) f
