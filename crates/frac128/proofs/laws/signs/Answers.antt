use Rattle.frac128.proofs.Ordered.{below_zero, above_zero}
use Rattle.frac128.proofs.laws.signs.Goals as goal

pub returns-clause-above_zero : goal.returns-clause-above_zero
returns-clause-above_zero c = above_zero

pub returns-clause-below_zero : goal.returns-clause-below_zero
returns-clause-below_zero c = below_zero
