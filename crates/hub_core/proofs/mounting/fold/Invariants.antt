use Rattle.std.proofs.Common.{take}
use Rattle.hub_core.specs.Folding.{IsFold}
use Rattle.hub_core.proofs.mounting.fold.Given as goal

abbrev pub invariant-loop-place : goal.invariant-loop-place
invariant-loop-place l = IsFold (take l.place l.bodies.items) l.table.table
