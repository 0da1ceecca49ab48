use Rattle.std.proofs.Common.{◌≡◌, drop, length}
use Rattle.cert_check.specs.Sums.{with_rows}
use Rattle.cert_check.proofs.sums.Sums.add_rows.Given as goal

abbrev pub invariant-loop-w : goal.invariant-loop-w
invariant-loop-w l = record {
  same : with_rows l.rows (drop l.w-index l.weights) l.self ≡ with_rows l.rows l.weights l.fn.self;
  sizes : length l.self ≡ length l.fn.self;
}
