use Rattle.std.proofs.Common.{◌≡◌, length}
use Rattle.pivot_bench.proofs.programs.Random.fractions.Given as goal

abbrev pub invariant-loop : goal.invariant-loop
invariant-loop l = length l.fractions.items ≡ l.counter
