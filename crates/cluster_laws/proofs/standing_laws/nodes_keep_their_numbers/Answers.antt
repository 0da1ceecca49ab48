use Rattle.cluster_laws.proofs.Least.{best_is_least, placing_numbers}
use Rattle.cluster_laws.proofs.Numbered.{behind_kept, first_rise, step_kept}
use Rattle.cluster_laws.proofs.standing_laws.nodes_keep_their_numbers.Goals as goal

pub returns-clause-rising : goal.returns-clause-rising
returns-clause-rising c = first_rise

pub returns-clause-behind : goal.returns-clause-behind
returns-clause-behind c = behind_kept

pub returns-clause-step : goal.returns-clause-step
returns-clause-step c = step_kept

pub returns-clause-placing : goal.returns-clause-placing
returns-clause-placing c = placing_numbers

pub returns-clause-least : goal.returns-clause-least
returns-clause-least c = best_is_least
