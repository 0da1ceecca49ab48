use Rattle.table_defs.proofs.Outcomes.{at_most_one, stays}
use Rattle.table_defs.proofs.laws.an_attempt_ends_once.Goals as goal

pub returns-clause-one : goal.returns-clause-one
returns-clause-one c = at_most_one

pub returns-clause-stays : goal.returns-clause-stays
returns-clause-stays c = stays
