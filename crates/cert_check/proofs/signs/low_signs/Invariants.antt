use Rattle.std.proofs.Common.{◌≡◌, drop}
use Rattle.solve_defs.specs.Looks.{verdict_of}
use Rattle.cert_check.specs.Leaves.{low_signs}
use Rattle.cert_check.proofs.signs.low_signs.Given as goal

abbrev pub invariant-loop-w : goal.invariant-loop-w
invariant-loop-w l = verdict_of (low_signs l.bounds l.leaf (drop l.w-index l.weights)) ≡ verdict_of (low_signs l.bounds l.leaf l.weights)
