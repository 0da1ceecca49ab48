use Rattle.frac128.proofs.Ordered.{IsBelow_trans_right, IsBelow_trans, IsAtMost-self, IsAtMost-from_below, IsAtMost_antisymm, IsAtMost_total, IsAtMost_trans, IsBelow-not, cases_below}
use Rattle.frac128.proofs.laws.order_is_total.Goals as goal

pub returns-clause-total : goal.returns-clause-total
returns-clause-total c = IsAtMost_total

pub returns-clause-transitive : goal.returns-clause-transitive
returns-clause-transitive c = IsAtMost_trans

pub returns-clause-antisymmetric : goal.returns-clause-antisymmetric
returns-clause-antisymmetric c x y left right = IsAtMost_antisymm x y left.nothing_in_common right.nothing_in_common

pub returns-clause-below : goal.returns-clause-below
returns-clause-below c = cases_below

pub returns-clause-below_not : goal.returns-clause-below_not
returns-clause-below_not c = IsBelow-not

pub returns-clause-below_at_most : goal.returns-clause-below_at_most
returns-clause-below_at_most c = IsAtMost-from_below

pub returns-clause-itself : goal.returns-clause-itself
returns-clause-itself c = IsAtMost-self

pub returns-clause-below_then_at_most : goal.returns-clause-below_then_at_most
returns-clause-below_then_at_most c = IsBelow_trans

pub returns-clause-at_most_then_below : goal.returns-clause-at_most_then_below
returns-clause-at_most_then_below c = IsBelow_trans_right
