use Rattle.solve_defs.proofs.FormLaw.{columns_stand_for_points, point_back_is_exact, points_come_from_columns}
use Rattle.solve_defs.proofs.form_laws.a_standard_form_keeps_the_points.Goals as goal

pub returns-clause-back : goal.returns-clause-back
returns-clause-back c = columns_stand_for_points

pub returns-clause-forth : goal.returns-clause-forth
returns-clause-forth c = points_come_from_columns

pub returns-clause-checked : goal.returns-clause-checked
returns-clause-checked c = point_back_is_exact
