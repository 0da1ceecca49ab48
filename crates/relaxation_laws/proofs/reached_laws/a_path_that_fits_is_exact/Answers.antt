use Rattle.relaxation_laws.proofs.ExactSteps.{leads_exactly, path_is_exact}
use Rattle.relaxation_laws.proofs.reached_laws.a_path_that_fits_is_exact.Goals as goal

pub returns-clause-next : goal.returns-clause-next
returns-clause-next c = leads_exactly

pub returns-clause-path : goal.returns-clause-path
returns-clause-path c = path_is_exact
