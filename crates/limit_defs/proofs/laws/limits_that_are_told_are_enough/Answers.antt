use Rattle.limit_defs.proofs.Told.{told_enough}
use Rattle.limit_defs.proofs.laws.limits_that_are_told_are_enough.Goals as goal

pub returns : goal.returns
returns c = told_enough
