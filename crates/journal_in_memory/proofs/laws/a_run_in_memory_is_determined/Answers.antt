use Rattle.journal_in_memory.proofs.Runs.{ran_is}
use Rattle.journal_in_memory.proofs.laws.a_run_in_memory_is_determined.Goals as goal

pub returns : goal.returns
returns c = ran_is
