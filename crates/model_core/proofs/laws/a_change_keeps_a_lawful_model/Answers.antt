use Rattle.model_core.proofs.KeptChange.{kept_one}
use Rattle.model_core.proofs.LawfulChange.{lawful_one}
use Rattle.model_core.proofs.laws.a_change_keeps_a_lawful_model.Goals as goal

pub returns : goal.returns
returns c = record { lawful = lawful_one; kept = kept_one }
