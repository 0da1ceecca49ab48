use Rattle.std.proofs.Common.{◌≡◌, drop, length}
use Rattle.cert_check.specs.Sums.{with_terms}
use Rattle.cert_check.proofs.sums.Sums.add_row.Given as goal

abbrev pub invariant-loop-term : goal.invariant-loop-term
invariant-loop-term l = record {
  same : with_terms l.weight (drop l.term-index l.terms) l.self-inside.sums.items ≡ with_terms l.weight l.terms l.fn.self;
  sizes : length l.self-inside.sums.items ≡ length l.fn.self;
}
