use Rattle.std.proofs.Common.{◌≡◌, length, reverse}
use Rattle.cert_check.specs.Stack.{AllWithin, waiting}
use Rattle.cert_check.proofs.cases.Cases.next.Given as goal

abbrev pub invariant-loop-top : goal.invariant-loop-top
invariant-loop-top l = record {
  later : waiting l.self-inside.bounds.items (reverse l.self-inside.kept.items) ≡ l.fn.self.later;
  within : AllWithin (length l.self-inside.bounds.items) (reverse l.self-inside.kept.items);
}

abbrev pub decreases-loop-top : goal.decreases-loop-top
decreases-loop-top l = length l.self-inside.kept.items
