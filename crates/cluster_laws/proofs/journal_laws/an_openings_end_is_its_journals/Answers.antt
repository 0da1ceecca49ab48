use Rattle.cluster_laws.proofs.Ends.{kept_raises, life_end, nothing_raises}
use Rattle.cluster_laws.proofs.journal_laws.an_openings_end_is_its_journals.Goals as goal

pub returns-clause-behind : goal.returns-clause-behind
returns-clause-behind c = λ k events j first last o. life_end first last o

pub returns-clause-kept : goal.returns-clause-kept
returns-clause-kept c = kept_raises

pub returns-clause-nothing : goal.returns-clause-nothing
returns-clause-nothing c = nothing_raises
