use Rattle.solve_defs.proofs.FormEnds.{best_columns, no_columns_point, unbounded_columns}
use Rattle.solve_defs.proofs.form_laws.a_standard_form_ends_as_its_relaxation.Goals as goal

pub returns-clause-best : goal.returns-clause-best
returns-clause-best c = best_columns

pub returns-clause-none : goal.returns-clause-none
returns-clause-none c = no_columns_point

pub returns-clause-unbounded : goal.returns-clause-unbounded
returns-clause-unbounded c = unbounded_columns
