use Rattle.lp_laws.proofs.Texts.{place}
use Rattle.lp_laws.proofs.places.where_a_fault_stands.Goals as goal

pub returns : goal.returns
returns c = place
