use Rattle.hub_core.proofs.Keeping.{mounting_keeps}
use Rattle.hub_core.proofs.laws.a_mounting_keeps_the_journal.Goals as goal

pub returns : goal.returns
returns g c = mounting_keeps c.an_image_is_read_as_its_bodies.ensures.mends g.D.Disk.moment g.D.Disk.left
