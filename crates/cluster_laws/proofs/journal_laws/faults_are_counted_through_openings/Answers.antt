use Rattle.cluster_laws.proofs.Faults.{all_counted, behind_all, none_falls}
use Rattle.cluster_laws.proofs.journal_laws.faults_are_counted_through_openings.Goals as goal

pub returns-clause-counted : goal.returns-clause-counted
returns-clause-counted c = all_counted

pub returns-clause-each : goal.returns-clause-each
returns-clause-each c = none_falls

pub returns-clause-rises : goal.returns-clause-rises
returns-clause-rises c = behind_all
