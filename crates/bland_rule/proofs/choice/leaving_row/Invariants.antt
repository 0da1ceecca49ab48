use Rattle.std.proofs.Common.{◌≡◌, ◌+◌, ◌-◌, length, map, Ok}
use Rattle.frac128.specs.Checked.{◌>>=◌}
use Rattle.dictionary.specs.Dictionary.{numbers_from}
use Rattle.dictionary.specs.Rule.{best_among, leaves_before, ratios}
use Rattle.bland_rule.specs.Scans.{nearest_with, passed, row_ahead}
use Rattle.bland_rule.proofs.choice.leaving_row.Given as goal

abbrev pub invariant-loop-place : goal.invariant-loop-place
invariant-loop-place g l =
    let d = g.T.Tableau.meaning l.t in
    passed nearest_with l.best (map (row_ahead d l.column) (numbers_from (l.place + 1) (length d.basic - l.place))) ≡ ◌>>=◌ (ratios d l.column) (λ xs. Ok (best_among leaves_before xs))
