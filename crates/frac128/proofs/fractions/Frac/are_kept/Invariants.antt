use Rattle.std.specs.List.{AllWithin}
use Rattle.frac128.specs.Lowest.{IsKept}
use Rattle.frac128.proofs.fractions.Frac.are_kept.Given as goal

abbrev pub invariant-loop-value : goal.invariant-loop-value
invariant-loop-value l = AllWithin IsKept l.values 0 l.value-index
