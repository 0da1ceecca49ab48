use Rattle.frac128.proofs.Divisors.{gcd-above_zero}
use Rattle.frac128.proofs.parts.reduced_parts.Goals as goal

pub divided-requires : goal.divided-requires
divided-requires c = rw c.gcd-divisor.ensures (gcd-above_zero _ _ c.requires)

pub divided-requires-2 : goal.divided-requires-2
divided-requires-2 c = rw c.gcd-divisor.ensures (gcd-above_zero _ _ c.requires)
