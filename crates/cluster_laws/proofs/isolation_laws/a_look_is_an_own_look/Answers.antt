use Rattle.cluster_laws.proofs.HistoryLooks.{look_is_own}
use Rattle.cluster_laws.proofs.isolation_laws.a_look_is_an_own_look.Goals as goal

pub returns : goal.returns
returns c = look_is_own
