-- The simplex method on one relaxation over exact fractions, through both phases, whatever the size of their parts.
use Rattle.std.specs.Prelude.{◌≡◌, ℕ, zero, suc, unwrap_or}
use Rattle.dictionary.specs.Dictionary.{Dictionary, artificial_column}
use Rattle.dictionary.specs.ExactPath.{exact_pivot, exact_ratios}
use Rattle.dictionary.specs.Rule.{least_row, leaving_row}
use Rattle.solve_defs.specs.Path.{Entering, a_pivot, artificial, by_rule, coming, settled}

-- the dictionary that a pivot makes
abbrev pub exact_pivoted : Entering → Dictionary → Dictionary
exact_pivoted artificial d = exact_pivot (unwrap_or (least_row d) 0) (artificial_column d) d
exact_pivoted (by_rule c) d = exact_pivot (unwrap_or (leaving_row (exact_ratios d c)) 0) c d

-- One pivot leads from d to e, in phase two where phase one is over.
pub record ExactlyLeadsTo (d e : Dictionary) : Type 0 where
  pub entering : Entering
  pub comes : coming d ≡ a_pivot entering
  pub gives : e ≡ settled (exact_pivoted entering d)

-- So many pivots lead from the first dictionary to the last.
pub data ExactRelaxation : Dictionary → ℕ → Dictionary → Type 0 where
  here : {d : Dictionary} → ExactRelaxation d zero d
  further : {d e f : Dictionary} {n : ℕ} → ExactRelaxation d n e → ExactlyLeadsTo e f → ExactRelaxation d (suc n) f
