use Rattle.std.proofs.Common.{◌≡◌, None}
use Rattle.base_tests.proofs.lines.blocks_of.Given as goal

abbrev pub invariant-loop-size : goal.invariant-loop-size
invariant-loop-size g l = l.reader.waiting ≡ None
