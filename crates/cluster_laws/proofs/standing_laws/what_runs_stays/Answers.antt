use Rattle.cluster_laws.proofs.Staying.{step_keeps, step_stays}
use Rattle.cluster_laws.proofs.standing_laws.what_runs_stays.Goals as goal

pub returns-clause-job : goal.returns-clause-job
returns-clause-job c = step_stays

pub returns-clause-attempt : goal.returns-clause-attempt
returns-clause-attempt c = step_keeps
