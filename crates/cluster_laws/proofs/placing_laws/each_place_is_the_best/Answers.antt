use Rattle.cluster_laws.proofs.Allowed.{all_allowed, attempts_stay, none_may_run}
use Rattle.cluster_laws.proofs.placing_laws.each_place_is_the_best.Goals as goal

pub returns-clause-allowed : goal.returns-clause-allowed
returns-clause-allowed c = all_allowed

pub returns-clause-none_left : goal.returns-clause-none_left
returns-clause-none_left c = none_may_run

pub returns-clause-stays : goal.returns-clause-stays
returns-clause-stays c = attempts_stay
