use Rattle.cycle_laws.proofs.Kept.{step_feasible, step_lawful, step_rises, step_solutions, step_stays, step_values}
use Rattle.cycle_laws.proofs.basis_laws.an_exact_step_keeps_what_a_pivot_keeps.Goals as goal

pub returns-clause-lawful : goal.returns-clause-lawful
returns-clause-lawful c = step_lawful

pub returns-clause-feasible : goal.returns-clause-feasible
returns-clause-feasible c = step_feasible

pub returns-clause-solutions : goal.returns-clause-solutions
returns-clause-solutions c = step_solutions

pub returns-clause-values : goal.returns-clause-values
returns-clause-values c = step_values

pub returns-clause-rises : goal.returns-clause-rises
returns-clause-rises c = step_rises

pub returns-clause-stays : goal.returns-clause-stays
returns-clause-stays c = step_stays
