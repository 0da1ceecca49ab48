use Rattle.disk_model.proofs.MemoryCalls.{called, write_images}
use Rattle.disk_model.specs.Calls.{WriteCall}
use Rattle.disk_model.proofs.memory_disk.MemDiskDisk.write_at.Goals as goal

pub returns-clause-images : goal.returns-clause-images
returns-clause-images c = write_images c.args.self.now c.write_now.new.self c.args.at c.args.bytes.now c.write_now.result c.requires c.write_now.ensures.made

pub returns-clause-called : goal.returns-clause-called
returns-clause-called c = called c.args.self.now c.write_now.new.self (WriteCall c.args.at c.args.bytes.now c.write_now.result) c.write_now.ensures.made c.write_now.ensures.later
