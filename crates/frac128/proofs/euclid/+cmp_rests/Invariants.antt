use Rattle.std.proofs.Common.{◌+◌}
use Rattle.frac128.proofs.euclid.+cmp_rests.Given as goal

abbrev pub decreases-cmp_rests : goal.decreases-cmp_rests
decreases-cmp_rests l = l.b + l.d
