use Rattle.frac128.proofs.Divisors.{gcd-divides}
use Rattle.frac128.proofs.Field.{apart_of-product, apart_of-sum, lowest-apart, lowest-cross}
use Rattle.frac128.proofs.laws.lowest_terms.Goals as goal

pub returns-clause-divisor : goal.returns-clause-divisor
returns-clause-divisor c = gcd-divides

pub returns-clause-value : goal.returns-clause-value
returns-clause-value c = lowest-cross

pub returns-clause-nothing_in_common : goal.returns-clause-nothing_in_common
returns-clause-nothing_in_common c = lowest-apart

pub returns-clause-sum : goal.returns-clause-sum
returns-clause-sum c = apart_of-sum

pub returns-clause-product : goal.returns-clause-product
returns-clause-product c = apart_of-product
