use Rattle.std.proofs.Common.{sym}
use Rattle.wire_text.proofs.reading.read_behind.Goals as goal

pub returns-in_ok-size_behind-in-Read : goal.returns-in_ok-size_behind-in-Read
returns-in_ok-size_behind-in-Read c = rw c.in-Read.is (sym c.in_ok-size_behind-in-Read.ensures)

pub returns-in-Update : goal.returns-in-Update
returns-in-Update c = rw c.in-Update.is c.alone.ensures

pub returns-in-Write : goal.returns-in-Write
returns-in-Write c = rw c.in-Write.is c.alone-in-Write.ensures

pub returns-in-SetParam : goal.returns-in-SetParam
returns-in-SetParam c = rw c.in-SetParam.is c.set_param.ensures

pub returns-in-Batch : goal.returns-in-Batch
returns-in-Batch c = rw c.in-Batch.is c.alone-in-Batch.ensures

pub returns-in-BStatus : goal.returns-in-BStatus
returns-in-BStatus c = rw c.in-BStatus.is c.bstatus.ensures

pub returns-in-Bye : goal.returns-in-Bye
returns-in-Bye c = rw c.in-Bye.is c.alone-in-Bye.ensures
