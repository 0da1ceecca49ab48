use Rattle.solver_laws.proofs.Solved.{certificate_valid, says_so}
use Rattle.solver_laws.proofs.answers.solves_are_right.Goals as goal

pub returns-clause-valid : goal.returns-clause-valid
returns-clause-valid c p k = certificate_valid c.args.m.now p k c.requires c.kept_numbers.ensures

pub returns-clause-so : goal.returns-clause-so
returns-clause-so c p k = says_so c.args.m.now p k c.requires c.kept_numbers.ensures
