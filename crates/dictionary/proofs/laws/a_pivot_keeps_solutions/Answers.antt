use Rattle.dictionary.proofs.Points.Lawful.{IsLawful-turned, turns}
use Rattle.dictionary.proofs.Points.PivotLaw.{auxiliary_kept, objective_kept, solutions_kept}
use Rattle.dictionary.proofs.laws.a_pivot_keeps_solutions.Goals as goal

pub returns-clause-solutions : goal.returns-clause-solutions
returns-clause-solutions c = solutions_kept

pub returns-clause-objective : goal.returns-clause-objective
returns-clause-objective c = objective_kept

pub returns-clause-auxiliary : goal.returns-clause-auxiliary
returns-clause-auxiliary c = auxiliary_kept

pub returns-clause-lawful : goal.returns-clause-lawful
returns-clause-lawful c r c' d e lawful h = let made = turns r c' d e lawful h in IsLawful-turned made.0 made.1 d e lawful made.2
