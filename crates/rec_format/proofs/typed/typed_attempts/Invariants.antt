use Rattle.std.specs.List.{AllWithin}
use Rattle.rec_format.specs.Lawful.{IsAttempt}
use Rattle.rec_format.proofs.typed.typed_attempts.Given as goal

abbrev pub invariant-loop-of : goal.invariant-loop-of
invariant-loop-of l = AllWithin IsAttempt l.list 0 l.of-index
