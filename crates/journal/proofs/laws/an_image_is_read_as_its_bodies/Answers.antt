use Rattle.journal.proofs.Holding.{holds_header, holds_records, mends_holds}
use Rattle.journal.proofs.laws.an_image_is_read_as_its_bodies.Goals as goal

pub returns-clause-reads : goal.returns-clause-reads
returns-clause-reads c = holds_records

pub returns-clause-opens : goal.returns-clause-opens
returns-clause-opens c = holds_header

pub returns-clause-mends : goal.returns-clause-mends
returns-clause-mends c = mends_holds
