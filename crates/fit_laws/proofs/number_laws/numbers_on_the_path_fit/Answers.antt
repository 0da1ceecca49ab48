use Rattle.fit_laws.proofs.KeptForms.{form_fits}
use Rattle.fit_laws.proofs.KeptPath.{path_fits}
use Rattle.fit_laws.proofs.number_laws.numbers_on_the_path_fit.Goals as goal

pub returns-clause-form : goal.returns-clause-form
returns-clause-form c = form_fits

pub returns-clause-path : goal.returns-clause-path
returns-clause-path c = path_fits
