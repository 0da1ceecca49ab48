use Rattle.std.proofs.Common.{ap}
use Rattle.disk_model.proofs.Restarting.{stop_left}
use Rattle.disk_model.proofs.memory_disk.MemDisk.leaves_images.Goals as goal

pub returns : goal.returns
returns c = stop_left c.args.self.now c.self.inside.undo.items c.self.inside.bytes.items (ap (λ d. d.stored) c.self.view_is) c.self.invariant
