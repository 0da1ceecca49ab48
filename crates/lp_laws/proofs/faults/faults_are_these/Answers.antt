use Rattle.lp_laws.proofs.Texts.{exactly}
use Rattle.lp_laws.proofs.faults.faults_are_these.Goals as goal

pub returns : goal.returns
returns c = exactly
