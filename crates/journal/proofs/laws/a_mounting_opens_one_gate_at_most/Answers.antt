use Rattle.journal.proofs.Holding.{mending_records}
use Rattle.journal.proofs.laws.a_mounting_opens_one_gate_at_most.Goals as goal

pub returns : goal.returns
returns c = mending_records
