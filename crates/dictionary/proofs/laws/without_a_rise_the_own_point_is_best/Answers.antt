use Rattle.std.proofs.Common.{subst, sym}
use Rattle.frac128.specs.Order.{IsAtMost}
use Rattle.dictionary.specs.Solutions.{objective_at}
use Rattle.dictionary.proofs.Points.OwnPoint.{objective-reduced, own_point-value, total-at_most}
use Rattle.dictionary.proofs.laws.without_a_rise_the_own_point_is_best.Goals as goal

pub returns-clause-bound : goal.returns-clause-bound
returns-clause-bound c d x lawful falls feasible = total-at_most x d.nonbasic d.objective (objective-reduced d lawful) falls feasible.at_least_zero

pub returns-clause-best : goal.returns-clause-best
returns-clause-best c d x lawful falls feasible =
    subst (IsAtMost (objective_at d x)) (sym (own_point-value d lawful)) (total-at_most x d.nonbasic d.objective (objective-reduced d lawful) falls feasible.at_least_zero)
