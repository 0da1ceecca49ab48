use Rattle.dictionary.proofs.Points.Exact.{fitting_pivot, fitting_ratios, fitting_step}
use Rattle.dictionary.proofs.exact_laws.what_fits_is_exact.Goals as goal

pub returns-clause-pivot : goal.returns-clause-pivot
returns-clause-pivot c = fitting_pivot

pub returns-clause-ratios : goal.returns-clause-ratios
returns-clause-ratios c = fitting_ratios

pub returns-clause-step : goal.returns-clause-step
returns-clause-step c = fitting_step
