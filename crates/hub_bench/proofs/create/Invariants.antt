use Rattle.hub_core.specs.Standing.{IsStanding}
use Rattle.hub_bench.proofs.create.Given as goal

abbrev pub invariant-loop : goal.invariant-loop
invariant-loop g l = IsStanding g.D.Disk.moment g.D.Disk.left g.D.Disk.faults l.hub
