use Rattle.lp_defs.proofs.Names.{lawful-name, name-lawful}
use Rattle.lp_defs.proofs.token_laws.names_are_tokens.Goals as goal

pub returns : goal.returns
returns c = λ run some plain. (λ e. name-lawful run some plain e, λ h. lawful-name run h)
