use Rattle.lp_defs.proofs.Labels.{label-lawful}
use Rattle.lp_defs.proofs.token_laws.labels_are_names.Goals as goal

pub returns : goal.returns
returns c = label-lawful
