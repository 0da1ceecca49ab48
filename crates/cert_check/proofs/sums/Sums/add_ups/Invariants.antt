use Rattle.std.proofs.Common.{◌≡◌, drop, length}
use Rattle.solve_defs.specs.Looks.{plus}
use Rattle.cert_check.specs.Sums.{with_bounds}
use Rattle.cert_check.proofs.sums.Sums.add_ups.Given as goal

abbrev pub invariant-loop-w : goal.invariant-loop-w
invariant-loop-w l = record {
  same : with_bounds plus (drop l.w-index l.ups) l.self-inside.sums.items ≡ with_bounds plus l.ups l.fn.self;
  sizes : length l.self-inside.sums.items ≡ length l.fn.self;
}
