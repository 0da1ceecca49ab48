use Rattle.cluster_laws.proofs.Store.{stored}
use Rattle.cluster_laws.proofs.step_laws.batches_are_kept_without_nodes.Goals as goal

pub returns-clause-next : goal.returns-clause-next
returns-clause-next c k d seat ask f = (stored k d seat ask f).0

pub returns-clause-reply : goal.returns-clause-reply
returns-clause-reply c k d seat ask f = (stored k d seat ask f).1
