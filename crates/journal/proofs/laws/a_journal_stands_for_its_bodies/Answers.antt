use Rattle.journal.proofs.Holding.{standing_holds, standing_records}
use Rattle.journal.proofs.laws.a_journal_stands_for_its_bodies.Goals as goal

pub returns-clause-holds : goal.returns-clause-holds
returns-clause-holds g c j image stands is = standing_holds g.D.Disk.moment g.D.Disk.left j image stands is

pub returns-clause-sure : goal.returns-clause-sure
returns-clause-sure g c j image stands is sure = standing_records g.D.Disk.moment g.D.Disk.left j image stands is sure
