use Rattle.solve_defs.proofs.FormSizes.{form-uniform}
use Rattle.relaxation_laws.proofs.LowestForm.{form_reduced}
use Rattle.relaxation_laws.proofs.point_laws.a_form_is_uniform_and_in_lowest_terms.Goals as goal

pub returns-clause-uniform : goal.returns-clause-uniform
returns-clause-uniform c = form-uniform

pub returns-clause-lowest : goal.returns-clause-lowest
returns-clause-lowest c = form_reduced
