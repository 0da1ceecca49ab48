use Rattle.solve_defs.proofs.ValidOutcomes.{valid_optimal, valid_point}
use Rattle.solve_defs.proofs.ValidRays.{valid_unbounded}
use Rattle.solve_defs.proofs.ValidTrees.{valid_infeasible, valid_tree}
use Rattle.solve_defs.proofs.certificate_laws.a_valid_certificate_shows_the_outcome.Goals as goal

pub returns-clause-optimal : goal.returns-clause-optimal
returns-clause-optimal c m o cert lawful valid optimal = let best = valid_optimal m o cert lawful valid optimal in (best.point, best.is_kept, best.best)

pub returns-clause-infeasible : goal.returns-clause-infeasible
returns-clause-infeasible c = valid_infeasible

pub returns-clause-point : goal.returns-clause-point
returns-clause-point c = valid_point

pub returns-clause-tree : goal.returns-clause-tree
returns-clause-tree c = valid_tree

pub returns-clause-unbounded : goal.returns-clause-unbounded
returns-clause-unbounded c = valid_unbounded
