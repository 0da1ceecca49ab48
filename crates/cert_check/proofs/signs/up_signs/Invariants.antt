use Rattle.std.proofs.Common.{◌≡◌, drop}
use Rattle.solve_defs.specs.Looks.{verdict_of}
use Rattle.cert_check.specs.Leaves.{up_signs}
use Rattle.cert_check.proofs.signs.up_signs.Given as goal

abbrev pub invariant-loop-w : goal.invariant-loop-w
invariant-loop-w l = verdict_of (up_signs l.bounds l.leaf (drop l.w-index l.weights)) ≡ verdict_of (up_signs l.bounds l.leaf l.weights)
