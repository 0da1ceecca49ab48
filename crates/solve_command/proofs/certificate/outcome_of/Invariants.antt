use Rattle.solve_command.proofs.Turns.{IsUnderWay, turns_left}
use Rattle.solve_command.proofs.certificate.outcome_of.Given as goal

abbrev pub invariant-loop-solving : goal.invariant-loop-solving
invariant-loop-solving l = IsUnderWay l.fn.model l.fn.params l.solving

abbrev pub decreases-loop-solving : goal.decreases-loop-solving
decreases-loop-solving l = turns_left l.fn.params l.solving.progress
