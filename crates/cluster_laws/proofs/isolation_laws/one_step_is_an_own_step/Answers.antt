use Rattle.cluster_laws.proofs.OwnDeeds.{nothing_changes, one_step}
use Rattle.cluster_laws.proofs.isolation_laws.one_step_is_an_own_step.Goals as goal

pub returns-clause-step : goal.returns-clause-step
returns-clause-step c = one_step

pub returns-clause-nothing : goal.returns-clause-nothing
returns-clause-nothing c = nothing_changes
