use Rattle.cluster_laws.proofs.Counts.{behind_within}
use Rattle.cluster_laws.proofs.standing_laws.counted_entries_stay_within_their_limit.Goals as goal

pub returns : goal.returns
returns c = behind_within
