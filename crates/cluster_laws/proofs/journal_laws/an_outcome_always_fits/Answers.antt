use Rattle.cluster_laws.proofs.Room.{behind_fits, behind_rises, behind_stays}
use Rattle.cluster_laws.proofs.journal_laws.an_outcome_always_fits.Goals as goal

pub returns-clause-stays : goal.returns-clause-stays
returns-clause-stays c = behind_stays

pub returns-clause-fits : goal.returns-clause-fits
returns-clause-fits c = behind_fits

pub returns-clause-rises : goal.returns-clause-rises
returns-clause-rises c = behind_rises
