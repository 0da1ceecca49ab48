use Rattle.std.proofs.Common.{◌∙◌, sym}
use Rattle.frac128.proofs.Divisors.{gcd-same}
use Rattle.frac128.proofs.OddPair.{OddPair-step}
use Rattle.frac128.proofs.divisor.narrow_odd_gcd.Goals as goal

pub loop-a-preserved : goal.loop-a-preserved
loop-a-preserved c =
    rw c.min-least.ensures
    (OddPair-step c.loop-a.a c.loop-a.b _ _ _ c.loop-a.invariant c.narrow_without_twos-rest.ensures.odd (c.narrow_without_twos-rest.ensures.whole ∙ c.abs_diff.ensures))

pub returns : goal.returns
returns c = sym (gcd-same c.loop-a.a c.loop-a.b c.loop-a-test.false) ∙ c.loop-a.invariant.same
