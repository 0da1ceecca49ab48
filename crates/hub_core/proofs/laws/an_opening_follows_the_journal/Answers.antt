use Rattle.hub_core.proofs.MountingFound.{follows, never_refused, no_bad_record, no_other_file}
use Rattle.hub_core.proofs.laws.an_opening_follows_the_journal.Goals as goal

pub returns-clause-opened : goal.returns-clause-opened
returns-clause-opened g c disk setup h most j file told keeps mounted = follows g.D.Disk.name g.D.Disk.seen g.D.Disk.moment g.D.Disk.left g.D.Disk.calls g.D.Disk.makes g.D.Disk.faults c.lawful_records_are_told_apart.ensures.apart c.an_image_is_read_as_its_bodies.ensures.reads disk setup most j file told keeps h mounted

pub returns-clause-no_other_file : goal.returns-clause-no_other_file
returns-clause-no_other_file g c disk setup refused most j file head told keeps not_mounted = no_other_file g.D.Disk.name g.D.Disk.seen g.D.Disk.moment g.D.Disk.left g.D.Disk.calls g.D.Disk.makes g.D.Disk.faults c.lawful_records_are_told_apart.ensures.apart c.an_image_is_read_as_its_bodies.ensures.reads disk setup most j file told keeps refused not_mounted c.an_image_is_read_as_its_bodies.ensures.opens head

pub returns-clause-no_bad_record : goal.returns-clause-no_bad_record
returns-clause-no_bad_record g c disk setup refused most j file number told keeps not_mounted = no_bad_record g.D.Disk.name g.D.Disk.seen g.D.Disk.moment g.D.Disk.left g.D.Disk.calls g.D.Disk.makes g.D.Disk.faults c.lawful_records_are_told_apart.ensures.apart c.an_image_is_read_as_its_bodies.ensures.reads disk setup most j file told keeps refused not_mounted number

pub returns-clause-never_too_full : goal.returns-clause-never_too_full
returns-clause-never_too_full g c disk setup refused most j file sum told keeps less not_mounted = never_refused g.D.Disk.name g.D.Disk.seen g.D.Disk.moment g.D.Disk.left g.D.Disk.calls g.D.Disk.makes g.D.Disk.faults c.lawful_records_are_told_apart.ensures.apart c.an_image_is_read_as_its_bodies.ensures.reads disk setup most j file told keeps refused not_mounted less sum
