use Rattle.std.proofs.Common.{◌-◌, arith}
use Rattle.dictionary.proofs.Points.OwnPoint.{own_point-basic, own_point-feasible, own_point-nonbasic, own_point-solves, own_point-value}
use Rattle.dictionary.proofs.laws.the_own_point_is_a_solution.Goals as goal

pub returns-clause-solution : goal.returns-clause-solution
returns-clause-solution c = own_point-solves

pub returns-clause-feasible : goal.returns-clause-feasible
returns-clause-feasible c = own_point-feasible

pub returns-clause-objective : goal.returns-clause-objective
returns-clause-objective c = own_point-value

pub returns-clause-basic : goal.returns-clause-basic
returns-clause-basic c d r lawful above within = own_point-basic d (r - 1) lawful (omega (arith, above, within))

pub returns-clause-nonbasic : goal.returns-clause-nonbasic
returns-clause-nonbasic c d j lawful above within = own_point-nonbasic d (j - 1) lawful (omega (arith, above, within))
