use Rattle.frac128.proofs.Kept.{IsKept-quotient, IsKept-difference, IsKept-inverse, IsKept-negation, IsKept-one, IsKept-product, IsKept-sum, IsKept-zero}
use Rattle.frac128.proofs.laws.results_are_kept.Goals as goal

pub returns-clause-zero : goal.returns-clause-zero
returns-clause-zero c = IsKept-zero

pub returns-clause-one : goal.returns-clause-one
returns-clause-one c = IsKept-one

pub returns-clause-negation : goal.returns-clause-negation
returns-clause-negation c = IsKept-negation

pub returns-clause-inverse : goal.returns-clause-inverse
returns-clause-inverse c = IsKept-inverse

pub returns-clause-sum : goal.returns-clause-sum
returns-clause-sum c = IsKept-sum

pub returns-clause-product : goal.returns-clause-product
returns-clause-product c = IsKept-product

pub returns-clause-difference : goal.returns-clause-difference
returns-clause-difference c = IsKept-difference

pub returns-clause-quotient : goal.returns-clause-quotient
returns-clause-quotient c = IsKept-quotient
