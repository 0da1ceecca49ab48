use Rattle.cert_text.proofs.FirstBadLine.{one_value}
use Rattle.cert_text.proofs.laws.a_text_spells_one_value.Goals as goal

pub returns : goal.returns
returns c = one_value
