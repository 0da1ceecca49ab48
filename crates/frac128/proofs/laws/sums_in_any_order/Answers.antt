use Rattle.frac128.proofs.Field.{exact_sum_assoc, exact_sum_comm}
use Rattle.frac128.proofs.Kept.{FitsSum_comm}
use Rattle.frac128.proofs.laws.sums_in_any_order.Goals as goal

pub returns-clause-commute : goal.returns-clause-commute
returns-clause-commute c = exact_sum_comm

pub returns-clause-associate : goal.returns-clause-associate
returns-clause-associate c = exact_sum_assoc

pub returns-clause-fit : goal.returns-clause-fit
returns-clause-fit c = FitsSum_comm
