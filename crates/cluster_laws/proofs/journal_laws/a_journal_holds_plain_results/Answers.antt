use Rattle.cluster_laws.proofs.Results.{life_plain}
use Rattle.cluster_laws.proofs.journal_laws.a_journal_holds_plain_results.Goals as goal

pub returns : goal.returns
returns c = λ k events j life. (life_plain life).there
