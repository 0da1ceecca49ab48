use Rattle.hub_core.proofs.MountingFound.{finds, never_another, never_bad, never_too_full, own_sum}
use Rattle.hub_core.proofs.laws.an_opening_finds_its_records.Goals as goal

pub returns-clause-finds : goal.returns-clause-finds
returns-clause-finds c = finds c.lawful_records_are_told_apart.ensures.apart c.an_image_is_read_as_its_bodies.ensures.reads

pub returns-clause-no_other_file : goal.returns-clause-no_other_file
returns-clause-no_other_file c most j file head limit keeps why = never_another c.an_image_is_read_as_its_bodies.ensures.opens most j file head keeps why.0 why.1 why.2

pub returns-clause-no_bad_record : goal.returns-clause-no_bad_record
returns-clause-no_bad_record c most j file limit number keeps why = never_bad c.lawful_records_are_told_apart.ensures.apart c.an_image_is_read_as_its_bodies.ensures.reads most j file keeps why.1.0 why.1.2

pub returns-clause-never_too_full : goal.returns-clause-never_too_full
returns-clause-never_too_full c most j file limit sum keeps less why = never_too_full c.lawful_records_are_told_apart.ensures.apart c.an_image_is_read_as_its_bodies.ensures.reads most j file limit sum keeps less why.1

pub returns-clause-too_full : goal.returns-clause-too_full
returns-clause-too_full c most j file limit sum keeps why = own_sum c.lawful_records_are_told_apart.ensures.apart c.an_image_is_read_as_its_bodies.ensures.reads most j file limit sum keeps why.1
