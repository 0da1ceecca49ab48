use Rattle.solve_defs.proofs.LeafBounds.{no_point}
use Rattle.solve_defs.proofs.LeafLooks.{farkas_holds}
use Rattle.solve_defs.proofs.weight_laws.weights_empty_a_leaf.Goals as goal

pub returns-clause-side : goal.returns-clause-side
returns-clause-side c = no_point

pub returns-clause-looks : goal.returns-clause-looks
returns-clause-looks c = farkas_holds
