use Rattle.std.proofs.Common.{◌≡◌, drop}
use Rattle.solve_defs.specs.Looks.{formed}
use Rattle.cert_check.specs.Leaves.{low_sides}
use Rattle.cert_check.proofs.side.less_lows.Given as goal

abbrev pub invariant-loop-w : goal.invariant-loop-w
invariant-loop-w l = formed l.side (low_sides l.bounds (drop l.w-index l.weights)) ≡ formed l.total (low_sides l.bounds l.weights)
