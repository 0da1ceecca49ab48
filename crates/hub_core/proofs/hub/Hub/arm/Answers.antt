use Rattle.std.proofs.Common.{rules, refl}
use Rattle.hub_core.proofs.Sound.{stands_as}
use Rattle.hub_core.proofs.hub.Hub.arm.Goals as goal

pub returns-clause-stands : goal.returns-clause-stands
returns-clause-stands g c = stands_as g.D.Disk.moment g.D.Disk.left g.D.Disk.faults c.args.self.now (record c.args.self.now { journal = c.arm.new.self }) c.requires.stands c.arm.ensures.stands (search rules) (search rules) (search rules) refl
