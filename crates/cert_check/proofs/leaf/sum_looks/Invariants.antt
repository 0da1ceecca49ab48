use Rattle.std.proofs.Common.{◌≡◌, ◌++◌, drop, length, map, replicate}
use Rattle.cert_check.specs.Leaves.{coef_by, compared}
use Rattle.cert_check.specs.Sums.{no_sum}
use Rattle.cert_check.proofs.leaf.sum_looks.Given as goal

abbrev pub invariant-loop-place : goal.invariant-loop-place
invariant-loop-place l = record {
  sums : l.sums ≡ replicate l.place no_sum ++ drop l.place l.fn.sums;
  same : compared l.leaf l.place (drop l.place l.fn.sums) (drop l.place (map (coef_by l.m l.claim) l.m.vars)) ≡ compared l.leaf 0 l.fn.sums (map (coef_by l.m l.claim) l.m.vars);
}
