use Rattle.table_defs.proofs.Keyed.{keyed_after}
use Rattle.table_defs.proofs.laws.each_batch_is_there_once.Goals as goal

pub returns : goal.returns
returns c = keyed_after
