use Rattle.journal_in_memory.proofs.Runs.{added_is, failed_is}
use Rattle.journal_in_memory.proofs.laws.an_append_in_memory_is_determined.Goals as goal

pub returns-clause-added : goal.returns-clause-added
returns-clause-added c = added_is

pub returns-clause-failed : goal.returns-clause-failed
returns-clause-failed c = failed_is
