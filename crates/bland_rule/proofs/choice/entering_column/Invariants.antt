use Rattle.std.proofs.Common.{◌≡◌, ◌+◌, ◌-◌, filter, length, map}
use Rattle.std.specs.List.{fold}
use Rattle.dictionary.specs.Dictionary.{numbers_from}
use Rattle.dictionary.specs.Rule.{best_among, columns_of, is_positive}
use Rattle.bland_rule.specs.Scans.{best_with, column_at, smaller_variable}
use Rattle.bland_rule.proofs.choice.entering_column.Given as goal

abbrev pub invariant-loop-place : goal.invariant-loop-place
invariant-loop-place g l =
    let d = g.T.Tableau.meaning l.t in
    fold (best_with (λ x. is_positive x.coefficient) smaller_variable) l.best (map (column_at d) (numbers_from (l.place + 1) (length d.nonbasic - l.place))) ≡ best_among smaller_variable (filter (λ x. is_positive x.coefficient) (columns_of d))
