use Rattle.solver_laws.proofs.Solved.{certificate_valid, says_so}
use Rattle.solver_laws.proofs.answers.a_solve_of_a_sound_model_is_right.Goals as goal

pub returns-clause-valid : goal.returns-clause-valid
returns-clause-valid c m p k = certificate_valid m.model p k m.lawful m.kept

pub returns-clause-so : goal.returns-clause-so
returns-clause-so c m p k = says_so m.model p k m.lawful m.kept
