use Rattle.dictionary.proofs.Points.Opening.{IsLawful-opening, IsLawful-without, feasible-opening, phase_one-opening, without-has_none}
use Rattle.dictionary.proofs.laws.an_opening_is_lawful.Goals as goal

pub returns-clause-lawful : goal.returns-clause-lawful
returns-clause-lawful c = IsLawful-opening

pub returns-clause-without_artificial : goal.returns-clause-without_artificial
returns-clause-without_artificial c = IsLawful-without

pub returns-clause-feasible : goal.returns-clause-feasible
returns-clause-feasible c = feasible-opening

pub returns-clause-phase_one : goal.returns-clause-phase_one
returns-clause-phase_one c = phase_one-opening

pub returns-clause-no_artificial : goal.returns-clause-no_artificial
returns-clause-no_artificial c = without-has_none
