use Rattle.std.proofs.Common.{sym, subst}
use Rattle.disk_model.specs.Disk.{Only}
use Rattle.disk_model.specs.Memory.{DiskState, left_of, moment_of}
use Rattle.disk_model.proofs.Restarting.{restart_left, restart_only}
use Rattle.disk_model.proofs.memory_disk.MemDisk.after_stop.Goals as goal

pub returns-clause-left : goal.returns-clause-left
returns-clause-left c =
    let old = c.args.self.now in
    subst (λ (d : DiskState). left_of old (moment_of old) d.stored.bytes) (sym c.restart.ensures) (restart_left old c.leaves_images.ensures)

pub returns-clause-only : goal.returns-clause-only
returns-clause-only c stopped = subst (λ (d : DiskState). Only d.stored.bytes (left_of d (moment_of d))) (sym c.restart.ensures) (restart_only c.args.self.now stopped)
