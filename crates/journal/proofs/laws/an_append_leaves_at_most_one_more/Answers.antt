use Rattle.journal.proofs.Holding.{adding_records}
use Rattle.journal.proofs.laws.an_append_leaves_at_most_one_more.Goals as goal

pub returns : goal.returns
returns c = adding_records
