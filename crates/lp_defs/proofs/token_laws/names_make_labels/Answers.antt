use Rattle.lp_defs.proofs.Labels.{name-label}
use Rattle.lp_defs.proofs.token_laws.names_make_labels.Goals as goal

pub returns : goal.returns
returns c = name-label
