use Rattle.dictionary.proofs.Points.PhaseOne.{artificial-objective, artificial-phase_one, artificial-solutions, put-feasible}
use Rattle.dictionary.proofs.Points.Opening.{IsLawful-with}
use Rattle.dictionary.proofs.laws.an_artificial_variable_of_zero_changes_nothing.Goals as goal

pub returns-clause-phase_one : goal.returns-clause-phase_one
returns-clause-phase_one c = artificial-phase_one

pub returns-clause-solutions : goal.returns-clause-solutions
returns-clause-solutions c = artificial-solutions

pub returns-clause-objective : goal.returns-clause-objective
returns-clause-objective c = artificial-objective

pub returns-clause-free : goal.returns-clause-free
returns-clause-free c = put-feasible

pub returns-clause-lawful : goal.returns-clause-lawful
returns-clause-lawful c = IsLawful-with
