use Rattle.dictionary.proofs.Points.Feasible.{by_rule, feasible_by_rule, rises_by_rule}
use Rattle.dictionary.proofs.laws.the_rule_keeps_a_feasible_point.Goals as goal

pub returns-clause-pivots : goal.returns-clause-pivots
returns-clause-pivots c = by_rule

pub returns-clause-feasible : goal.returns-clause-feasible
returns-clause-feasible c = feasible_by_rule

pub returns-clause-rises : goal.returns-clause-rises
returns-clause-rises c = rises_by_rule
