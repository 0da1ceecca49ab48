use Rattle.std.proofs.Common.{length}
use Rattle.disk_model.proofs.Moments.{torn_images, same_images}
use Rattle.disk_model.proofs.tests.write_through.Goals as goal

pub returns-then-eq-clause-any_moment : goal.returns-then-eq-clause-any_moment
returns-then-eq-clause-any_moment g c =
    torn_images g.D.Disk.moment g.D.Disk.left c.args.disk.now c.write_at.new.self c.args.at (length c.args.bytes.now) c.write_at.ensures.called.time c.write_at.ensures.images

pub returns-clause-any_moment : goal.returns-clause-any_moment
returns-clause-any_moment g c =
    same_images g.D.Disk.moment g.D.Disk.left c.args.disk.now c.write_at.new.self c.sync.new.self _
    (torn_images g.D.Disk.moment g.D.Disk.left c.args.disk.now c.write_at.new.self c.args.at (length c.args.bytes.now) c.write_at.ensures.called.time c.write_at.ensures.images)
    c.sync.ensures.called.time c.sync.ensures.images
