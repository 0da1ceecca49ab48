use Rattle.cluster_laws.proofs.Histories.{own_replies_are}
use Rattle.cluster_laws.proofs.isolation_laws.replies_are_own_replies.Goals as goal

pub returns : goal.returns
returns c = own_replies_are
