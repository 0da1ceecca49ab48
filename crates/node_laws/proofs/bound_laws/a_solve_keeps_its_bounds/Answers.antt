use Rattle.node_laws.proofs.Suffice.{bounds_kept}
use Rattle.node_laws.proofs.bound_laws.a_solve_keeps_its_bounds.Goals as goal

pub returns : goal.returns
returns c m p k = bounds_kept m.model p k m.lawful m.kept
