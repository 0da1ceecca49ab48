use Rattle.std.proofs.Common.{◌^◌}
use Rattle.frac128.proofs.Divisors.{gcd-from_odd}
use Rattle.frac128.proofs.divisor.wide_gcd.Goals as goal

pub returns : goal.returns
returns c =
    rw c.min.ensures
    (gcd-from_odd c.args.a c.args.b _ _ _ _ (2 ^ 128) _ c.requires.a_above_zero c.ranges.a.fits c.without_twos-odd.ensures.odd c.without_twos-other_odd.ensures.odd
    c.without_twos-odd.ensures.whole c.without_twos-other_odd.ensures.whole c.odd_gcd.ensures)
