use Rattle.pivot_laws.proofs.Stages.{few_pivots}
use Rattle.pivot_laws.proofs.path_laws.a_relaxation_takes_few_pivots.Goals as goal

pub returns : goal.returns
returns c = few_pivots
