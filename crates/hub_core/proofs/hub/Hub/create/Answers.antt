use Rattle.std.proofs.Common.{refl}
use Rattle.hub_core.proofs.Answered.{memory_asked}
use Rattle.hub_core.proofs.hub.Hub.create.Goals as goal

pub returns-in_default-clause-asked : goal.returns-in_default-clause-asked
returns-in_default-clause-asked g c = memory_asked g.D.Disk.name g.D.Disk.moment g.D.Disk.left g.D.Disk.calls g.D.Disk.makes g.D.Disk.faults c.args.self.now c.requires.stands c.args.seat.now _ _ refl
