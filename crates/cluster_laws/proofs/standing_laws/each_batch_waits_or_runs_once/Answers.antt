use Rattle.table_defs.proofs.Keyed.{keyed_after}
use Rattle.cluster_laws.proofs.Lives.{behind_good}
use Rattle.cluster_laws.proofs.SoundOpenings.{opened_is_good}
use Rattle.cluster_laws.proofs.SoundSteps.{step_is_good}
use Rattle.cluster_laws.proofs.standing_laws.each_batch_waits_or_runs_once.Goals as goal

pub returns-clause-opened : goal.returns-clause-opened
returns-clause-opened c = λ k rs end taken. opened_is_good k _ end (keyed_after rs taken)

pub returns-clause-behind : goal.returns-clause-behind
returns-clause-behind c = behind_good

pub returns-clause-step : goal.returns-clause-step
returns-clause-step c = step_is_good
