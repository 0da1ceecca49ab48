use Rattle.dictionary.proofs.Points.EndPhase.{end-feasible, end-lawful, end-none, end-objective, end-solutions}
use Rattle.dictionary.proofs.laws.the_end_of_phase_one_keeps_solutions.Goals as goal

pub returns-clause-solutions : goal.returns-clause-solutions
returns-clause-solutions c = end-solutions

pub returns-clause-objective : goal.returns-clause-objective
returns-clause-objective c = end-objective

pub returns-clause-lawful : goal.returns-clause-lawful
returns-clause-lawful c = end-lawful

pub returns-clause-no_artificial : goal.returns-clause-no_artificial
returns-clause-no_artificial c = end-none

pub returns-clause-feasible : goal.returns-clause-feasible
returns-clause-feasible c = end-feasible
