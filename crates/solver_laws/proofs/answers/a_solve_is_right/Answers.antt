use Rattle.solver_laws.proofs.Solved.{certificate_valid, says_so}
use Rattle.solver_laws.proofs.answers.a_solve_is_right.Goals as goal

pub returns-clause-valid : goal.returns-clause-valid
returns-clause-valid c = certificate_valid

pub returns-clause-so : goal.returns-clause-so
returns-clause-so c = says_so
