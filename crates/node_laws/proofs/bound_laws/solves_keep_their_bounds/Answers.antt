use Rattle.node_laws.proofs.Suffice.{bounds_kept}
use Rattle.node_laws.proofs.bound_laws.solves_keep_their_bounds.Goals as goal

pub returns : goal.returns
returns c p k = bounds_kept c.args.m.now p k c.requires c.kept_numbers.ensures
