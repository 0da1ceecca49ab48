use Rattle.std.proofs.Common.{◌≡◌, drop}
use Rattle.std.specs.List.{list_any}
use Rattle.dictionary.specs.Dictionary.{entry}
use Rattle.dictionary.specs.Rule.{is_positive}
use Rattle.bland_rule.proofs.choice.is_bounded.Given as goal

abbrev pub invariant-loop-place : goal.invariant-loop-place
invariant-loop-place g l = list_any (λ row. is_positive (entry row l.column)) (drop l.place (g.T.Tableau.meaning l.t).rows) ≡ list_any (λ row. is_positive (entry row l.column)) (g.T.Tableau.meaning l.t).rows
