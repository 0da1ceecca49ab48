use Rattle.std.proofs.Common.{◌≡◌, ◌++◌, drop, map, take}
use Rattle.model_core.specs.Effect.{moved}
use Rattle.model_core.proofs.terms.move_up.Given as goal

abbrev pub invariant-loop-term : goal.invariant-loop-term
invariant-loop-term l = take l.term-index l.terms ++ map (moved l.var) (drop l.term-index l.terms) ≡ map (moved l.var) l.initial.terms
