use Rattle.std.specs.Prelude.{◌≤◌}
use Rattle.journal.specs.Standing.{Stands}
use Rattle.journal_bench.proofs.append.Given as goal

abbrev pub invariant-loop : goal.invariant-loop
invariant-loop g l = Stands g.D.Disk.moment g.D.Disk.left l.journal × (205 ≤ l.journal.reserved)
