use Rattle.dictionary.proofs.Points.PhaseOne.{IsPhaseOne-kept, auxiliary-at_most, no_point, own_artificial-zero}
use Rattle.dictionary.proofs.laws.a_best_w_below_zero_leaves_no_point.Goals as goal

pub returns-clause-bound : goal.returns-clause-bound
returns-clause-bound c = auxiliary-at_most

pub returns-clause-none : goal.returns-clause-none
returns-clause-none c = no_point

pub returns-clause-kept : goal.returns-clause-kept
returns-clause-kept c = IsPhaseOne-kept

pub returns-clause-zero : goal.returns-clause-zero
returns-clause-zero c = own_artificial-zero
