use Rattle.hub_core.proofs.Steps.{below_limit}
use Rattle.hub_core.proofs.hub.Hub.note.Goals as goal

pub count-requires-clause-entries : goal.count-requires-clause-entries
count-requires-clause-entries g c = (below_limit _ _ _ _ c.requires.free).0

pub count-requires-clause-charges : goal.count-requires-clause-charges
count-requires-clause-charges g c = (below_limit _ _ _ _ c.requires.free).1
