use Rattle.disk_model.proofs.Spoiling.{spoiled_is_torn, torn_spoils}
use Rattle.disk_model.proofs.laws.torn_writes_are_the_disk_model.Goals as goal

pub returns-clause-so : goal.returns-clause-so
returns-clause-so c = torn_spoils

pub returns-clause-each : goal.returns-clause-each
returns-clause-each c = spoiled_is_torn
