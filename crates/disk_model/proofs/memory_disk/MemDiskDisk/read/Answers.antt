use Rattle.disk_model.proofs.ImageSteps.{stays}
use Rattle.disk_model.proofs.MemoryCalls.{called, len_stored}
use Rattle.disk_model.proofs.memory_disk.MemDiskDisk.read.Goals as goal

pub returns-clause-images : goal.returns-clause-images
returns-clause-images c =
    let made = c.read_now.ensures.made in
    stays c.args.self.now c.read_now.new.self (len_stored c.args.self.now c.read_now.new.self _ made.1)

pub returns-clause-called : goal.returns-clause-called
returns-clause-called c = called c.args.self.now c.read_now.new.self _ c.read_now.ensures.made c.read_now.ensures.later
