use Rattle.cycle_laws.proofs.Entering.{enters_first}
use Rattle.cycle_laws.proofs.Leaving.{leaves_first}
use Rattle.cycle_laws.proofs.choice_laws.the_rule_takes_the_smallest_index.Goals as goal

pub returns-clause-enters : goal.returns-clause-enters
returns-clause-enters c = enters_first

pub returns-clause-leaves : goal.returns-clause-leaves
returns-clause-leaves c = leaves_first
