use Rattle.std.proofs.Common.{◌≡◌, drop}
use Rattle.solve_defs.specs.Looks.{formed}
use Rattle.cert_check.specs.Leaves.{up_sides}
use Rattle.cert_check.proofs.side.with_ups.Given as goal

abbrev pub invariant-loop-w : goal.invariant-loop-w
invariant-loop-w l = formed l.side (up_sides l.bounds (drop l.w-index l.weights)) ≡ formed l.total (up_sides l.bounds l.weights)
