use Rattle.std.proofs.Common.{◌≡◌, drop}
use Rattle.solve_defs.specs.Looks.{formed}
use Rattle.cert_check.specs.Leaves.{row_sides}
use Rattle.cert_check.proofs.side.with_rows.Given as goal

abbrev pub invariant-loop-w : goal.invariant-loop-w
invariant-loop-w l = formed l.side (row_sides l.rows (drop l.w-index l.weights)) ≡ formed l.total (row_sides l.rows l.weights)
