use Rattle.cluster_laws.proofs.Rule.{placing_is_repeated}
use Rattle.cluster_laws.proofs.placing_laws.placing_repeats_the_rule.Goals as goal

pub returns : goal.returns
returns c = placing_is_repeated
