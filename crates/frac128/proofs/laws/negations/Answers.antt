use Rattle.std.proofs.Common.{sym}
use Rattle.frac128.proofs.Field.{exact_difference-sum, exact_product-negation_left, exact_sum-negation, negation-negation, negation-sum}
use Rattle.frac128.proofs.laws.negations.Goals as goal

pub returns-clause-twice : goal.returns-clause-twice
returns-clause-twice c = negation-negation

pub returns-clause-cancel : goal.returns-clause-cancel
returns-clause-cancel c = exact_sum-negation

pub returns-clause-of_sum : goal.returns-clause-of_sum
returns-clause-of_sum c = negation-sum

pub returns-clause-of_product : goal.returns-clause-of_product
returns-clause-of_product c x y = sym (exact_product-negation_left x y)

pub returns-clause-taken_and_given : goal.returns-clause-taken_and_given
returns-clause-taken_and_given c x y kept = exact_difference-sum x y kept.nothing_in_common
