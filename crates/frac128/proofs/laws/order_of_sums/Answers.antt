use Rattle.frac128.proofs.Ordered.{IsAtMost_of-difference, IsAtMost-difference, IsAtMost-sums, IsAtMost-negation, IsAtMost-sum, IsBelow-negation, IsBelow-sum}
use Rattle.frac128.proofs.laws.order_of_sums.Goals as goal

pub returns-clause-at_most : goal.returns-clause-at_most
returns-clause-at_most c = IsAtMost-sum

pub returns-clause-below : goal.returns-clause-below
returns-clause-below c = IsBelow-sum

pub returns-clause-at_most_turned : goal.returns-clause-at_most_turned
returns-clause-at_most_turned c = IsAtMost-negation

pub returns-clause-below_turned : goal.returns-clause-below_turned
returns-clause-below_turned c = IsBelow-negation

pub returns-clause-both : goal.returns-clause-both
returns-clause-both c = IsAtMost-sums

pub returns-clause-difference : goal.returns-clause-difference
returns-clause-difference c = IsAtMost-difference

pub returns-clause-from_difference : goal.returns-clause-from_difference
returns-clause-from_difference c x y left right = IsAtMost_of-difference x y left.nothing_in_common right.nothing_in_common
