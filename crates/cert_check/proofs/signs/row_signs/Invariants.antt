use Rattle.std.proofs.Common.{◌≡◌, drop}
use Rattle.solve_defs.specs.Looks.{verdict_of}
use Rattle.cert_check.specs.Leaves.{row_signs}
use Rattle.cert_check.proofs.signs.row_signs.Given as goal

abbrev pub invariant-loop-w : goal.invariant-loop-w
invariant-loop-w l = verdict_of (row_signs l.rows l.leaf (drop l.w-index l.weights)) ≡ verdict_of (row_signs l.rows l.leaf l.weights)
