use Rattle.cluster_laws.proofs.Beliefs.{own_there, reached_believed}
use Rattle.cluster_laws.proofs.Journals.{reached_sound}
use Rattle.cluster_laws.proofs.Lives.{life_reaches}
use Rattle.cluster_laws.proofs.journal_laws.a_journal_is_what_its_events_tell.Goals as goal

pub returns-clause-reached : goal.returns-clause-reached
returns-clause-reached c = λ k events j life. life_reaches life

pub returns-clause-there : goal.returns-clause-there
returns-clause-there c = λ k events j life. (reached_believed (life_reaches life)).there

pub returns-clause-own : goal.returns-clause-own
returns-clause-own c = λ u k events j life. own_there u events j.records (reached_believed (life_reaches life)).there

pub returns-clause-taken : goal.returns-clause-taken
returns-clause-taken c = λ k events j life. reached_sound (life_reaches life)
