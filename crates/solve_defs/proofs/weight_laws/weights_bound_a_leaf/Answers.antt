use Rattle.solve_defs.proofs.LeafBounds.{side_bounds}
use Rattle.solve_defs.proofs.LeafLooks.{bound_holds}
use Rattle.solve_defs.proofs.weight_laws.weights_bound_a_leaf.Goals as goal

pub returns-clause-side : goal.returns-clause-side
returns-clause-side c = side_bounds

pub returns-clause-none_better : goal.returns-clause-none_better
returns-clause-none_better c = bound_holds
