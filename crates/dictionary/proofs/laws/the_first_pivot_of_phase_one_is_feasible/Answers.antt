use Rattle.dictionary.proofs.Points.FirstPivot.{opening_feasible, opening_pivots}
use Rattle.dictionary.proofs.laws.the_first_pivot_of_phase_one_is_feasible.Goals as goal

pub returns-clause-pivots : goal.returns-clause-pivots
returns-clause-pivots c = opening_pivots

pub returns-clause-feasible : goal.returns-clause-feasible
returns-clause-feasible c = opening_feasible
