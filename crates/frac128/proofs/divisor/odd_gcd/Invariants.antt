use Rattle.std.proofs.Common.{◌+◌}
use Rattle.frac128.specs.Numbers.{gcd}
use Rattle.frac128.proofs.OddPair.{OddPair}
use Rattle.frac128.proofs.divisor.odd_gcd.Given as goal

abbrev pub invariant-loop-a : goal.invariant-loop-a
invariant-loop-a l = OddPair l.a l.b (gcd l.fn.a l.fn.b)

abbrev pub decreases-loop-a : goal.decreases-loop-a
decreases-loop-a l = l.a + l.b
