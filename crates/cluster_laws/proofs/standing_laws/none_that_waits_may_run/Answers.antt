use Rattle.cluster_laws.proofs.Running.{lines_grow}
use Rattle.cluster_laws.proofs.Seated.{job_stays}
use Rattle.cluster_laws.proofs.Settling.{behind_settles, step_settles}
use Rattle.cluster_laws.proofs.standing_laws.none_that_waits_may_run.Goals as goal

pub returns-clause-behind : goal.returns-clause-behind
returns-clause-behind c = behind_settles

pub returns-clause-step : goal.returns-clause-step
returns-clause-step c = step_settles

pub returns-clause-lines : goal.returns-clause-lines
returns-clause-lines c = lines_grow

pub returns-clause-stays : goal.returns-clause-stays
returns-clause-stays c = job_stays
