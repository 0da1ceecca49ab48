use Rattle.std.proofs.Common.{◌≡◌, ◌+◌, ◌-◌, length, map, true}
use Rattle.std.specs.List.{fold}
use Rattle.dictionary.specs.Dictionary.{numbers_from}
use Rattle.dictionary.specs.Rule.{best_among, rows_from, side_before}
use Rattle.bland_rule.specs.Scans.{best_with, row_ahead}
use Rattle.bland_rule.proofs.choice.least_row.Given as goal

abbrev pub invariant-loop-place : goal.invariant-loop-place
invariant-loop-place g l =
    let d = g.T.Tableau.meaning l.t in
    fold (best_with (λ x. true) side_before) l.best (map (row_ahead d 0) (numbers_from (l.place + 1) (length d.basic - l.place))) ≡ best_among side_before (rows_from 0 1 d.basic d.rows)
