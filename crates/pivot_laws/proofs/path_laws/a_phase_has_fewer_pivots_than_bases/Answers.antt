use Rattle.pivot_laws.proofs.PathBound.{path_bound}
use Rattle.pivot_laws.proofs.path_laws.a_phase_has_fewer_pivots_than_bases.Goals as goal

pub returns : goal.returns
returns c = path_bound
