use Rattle.std.proofs.Common.{◌≡◌, drop, length}
use Rattle.solve_defs.specs.Looks.{minus}
use Rattle.cert_check.specs.Sums.{with_bounds}
use Rattle.cert_check.proofs.sums.Sums.take_lows.Given as goal

abbrev pub invariant-loop-w : goal.invariant-loop-w
invariant-loop-w l = record {
  same : with_bounds minus (drop l.w-index l.lows) l.self-inside.sums.items ≡ with_bounds minus l.lows l.fn.self;
  sizes : length l.self-inside.sums.items ≡ length l.fn.self;
}
