use Rattle.frac128.proofs.Ordered.{order_of-equal, order_of-greater, order_of-less}
use Rattle.frac128.proofs.laws.answers_of_cmp.Goals as goal

pub returns-clause-less : goal.returns-clause-less
returns-clause-less c = order_of-less

pub returns-clause-equal : goal.returns-clause-equal
returns-clause-equal c x y left right = order_of-equal x y left.nothing_in_common right.nothing_in_common

pub returns-clause-greater : goal.returns-clause-greater
returns-clause-greater c = order_of-greater
