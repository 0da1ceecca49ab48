use Rattle.std.proofs.Common.{◌≡◌, ap, ◌∙◌, subst, sym}
use Rattle.disk_model.specs.Calls.{SyncCall}
use Rattle.disk_model.specs.Disk.{Follows, Same}
use Rattle.disk_model.specs.Images.{Stored, settled}
use Rattle.disk_model.specs.Memory.{left_of, moment_of, synced_after}
use Rattle.disk_model.specs.declared.answer.DiskDone.{DiskDone}
use Rattle.disk_model.specs.declared.answer.DiskDone.TheVariants.{Done, Failed}
use Rattle.disk_model.proofs.ImageSteps.{stays, synced, syncs}
use Rattle.disk_model.proofs.MemoryCalls.{called, change_stored}
use Rattle.disk_model.proofs.memory_disk.MemDiskDisk.sync.Goals as goal

pub returns-clause-durable : goal.returns-clause-durable
returns-clause-durable c done =
    let stored = change_stored c.args.self.now c.sync_now.new.self (SyncCall c.sync_now.result) (synced_after c.sync_now.result) c.sync_now.ensures.made.1 in
    synced c.args.self.now c.sync_now.new.self (stored ∙ ap (λ (a : DiskDone). synced_after a c.args.self.now.stored) done)

pub returns-clause-images : goal.returns-clause-images
returns-clause-images c =
    by c.sync_now.result (change_stored c.args.self.now c.sync_now.new.self (SyncCall c.sync_now.result) (synced_after c.sync_now.result) c.sync_now.ensures.made.1) where
      by : (answer : DiskDone) → c.sync_now.new.self.stored ≡ synced_after answer c.args.self.now.stored → Follows Same (left_of c.args.self.now (moment_of c.args.self.now)) (left_of c.sync_now.new.self (moment_of c.sync_now.new.self))
      by Done stored = syncs c.args.self.now c.sync_now.new.self stored
      by Failed stored = stays c.args.self.now c.sync_now.new.self stored

pub returns-clause-called : goal.returns-clause-called
returns-clause-called c = called c.args.self.now c.sync_now.new.self (SyncCall c.sync_now.result) c.sync_now.ensures.made c.sync_now.ensures.later
