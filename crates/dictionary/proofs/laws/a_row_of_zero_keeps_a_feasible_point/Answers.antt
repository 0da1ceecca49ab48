use Rattle.dictionary.proofs.Points.Feasible.{feasible_by_zero}
use Rattle.dictionary.proofs.laws.a_row_of_zero_keeps_a_feasible_point.Goals as goal

pub returns : goal.returns
returns c = feasible_by_zero
