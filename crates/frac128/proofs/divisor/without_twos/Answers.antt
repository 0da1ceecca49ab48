use Rattle.std.specs.Int.{w128}
use Rattle.frac128.proofs.Divisors.{odd_part, odd_part-whole}
use Rattle.frac128.proofs.divisor.without_twos.Goals as goal

pub returns-clause-odd : goal.returns-clause-odd
returns-clause-odd c = odd_part w128 c.args.n c.requires c.ranges.n.fits

pub returns-clause-whole : goal.returns-clause-whole
returns-clause-whole c = odd_part-whole w128 c.args.n c.requires c.ranges.n.fits
