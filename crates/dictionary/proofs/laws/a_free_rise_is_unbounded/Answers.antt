use Rattle.dictionary.proofs.Points.FreeRise.{apart_of-whole, feasible_above, feasible_along}
use Rattle.frac128.specs.Fraction.{fraction}
use Rattle.dictionary.proofs.laws.a_free_rise_is_unbounded.Goals as goal

pub returns-clause-along : goal.returns-clause-along
returns-clause-along c = feasible_along

pub returns-clause-above : goal.returns-clause-above
returns-clause-above c = feasible_above

pub returns-clause-above_whole : goal.returns-clause-above_whole
returns-clause-above_whole c j d n lawful constants free = feasible_above j d (fraction n 1) lawful constants free (apart_of-whole n)
