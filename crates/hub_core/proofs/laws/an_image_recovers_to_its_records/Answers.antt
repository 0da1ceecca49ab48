use Rattle.hub_core.proofs.Keeping.{keeping_recovers, keeps_mended, keeps_recovers}
use Rattle.hub_core.proofs.laws.an_image_recovers_to_its_records.Goals as goal

pub returns-clause-recovers : goal.returns-clause-recovers
returns-clause-recovers c = keeps_recovers c.an_image_is_read_as_its_bodies.ensures.reads

pub returns-clause-keeping : goal.returns-clause-keeping
returns-clause-keeping c = keeping_recovers c.an_image_is_read_as_its_bodies.ensures.reads

pub returns-clause-mends : goal.returns-clause-mends
returns-clause-mends c = keeps_mended c.an_image_is_read_as_its_bodies.ensures.mends
