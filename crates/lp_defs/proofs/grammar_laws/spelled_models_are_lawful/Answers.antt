use Rattle.lp_defs.proofs.Sound.{kept, lawful}
use Rattle.lp_defs.proofs.SoundText.{spelled_sound}
use Rattle.lp_defs.proofs.grammar_laws.spelled_models_are_lawful.Goals as goal

pub returns-clause-lawful : goal.returns-clause-lawful
returns-clause-lawful c = λ text m s. lawful m (spelled_sound text m s)

pub returns-clause-kept : goal.returns-clause-kept
returns-clause-kept c = λ text m s. kept m (spelled_sound text m s)
