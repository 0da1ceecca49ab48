use Rattle.cluster_laws.proofs.OwnRoom.{life_room, opening_fits}
use Rattle.cluster_laws.proofs.journal_laws.a_journal_has_room_for_outcomes.Goals as goal

pub returns-clause-always : goal.returns-clause-always
returns-clause-always c = λ k events j life least short. life_room life least short

pub returns-clause-opened : goal.returns-clause-opened
returns-clause-opened c = opening_fits
