use Rattle.solve_defs.proofs.CasePoints.{case_point_relaxed}
use Rattle.solve_defs.proofs.certificate_laws.a_relaxation_has_the_points_within_its_cuts.Goals as goal

pub returns : goal.returns
returns c = case_point_relaxed
