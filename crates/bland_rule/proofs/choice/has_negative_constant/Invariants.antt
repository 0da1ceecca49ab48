use Rattle.std.proofs.Common.{◌≡◌, drop}
use Rattle.std.specs.List.{list_any}
use Rattle.dictionary.specs.Dictionary.{entry, is_negative}
use Rattle.bland_rule.proofs.choice.has_negative_constant.Given as goal

abbrev pub invariant-loop-place : goal.invariant-loop-place
invariant-loop-place g l = list_any (λ row. is_negative (entry row 0)) (drop l.place (g.T.Tableau.meaning l.t).rows) ≡ list_any (λ row. is_negative (entry row 0)) (g.T.Tableau.meaning l.t).rows
