use Rattle.std.proofs.Common.{◌≡◌, subst}
use Rattle.rec_format.specs.Records.{RecordFits}
use Rattle.rec_format.proofs.records.put_record.Goals as goal

pub write_to-requires : goal.write_to-requires
write_to-requires c = (subst RecordFits c.in-Create.is c.requires).1
