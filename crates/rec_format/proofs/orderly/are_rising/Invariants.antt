use Rattle.std.proofs.Common.{◌≡◌, drop}
use Rattle.rec_format.specs.Orderly as defs
use Rattle.rec_format.proofs.orderly.are_rising.Given as goal

abbrev pub invariant-loop-term : goal.invariant-loop-term
invariant-loop-term l = defs.are_rising l.least l.vars (drop l.term-index l.terms) ≡ defs.are_rising 0 l.vars l.terms
