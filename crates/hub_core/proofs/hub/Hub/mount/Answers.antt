use Rattle.std.proofs.Common.{rules, refl}
use Rattle.hub_core.proofs.MountingHub.{bodies_refused, mounted}
use Rattle.hub_core.proofs.hub.Hub.mount.Goals as goal

pub returns-in-Err-table_of-clause-err : goal.returns-in-Err-table_of-clause-err
returns-in-Err-table_of-clause-err g c =
    let below = c.in-Ok.ensures in
    let why = c.in-Err-table_of.ensures.bad in
    bodies_refused g.D.Disk.name g.D.Disk.seen g.D.Disk.moment g.D.Disk.left g.D.Disk.calls g.D.Disk.makes g.D.Disk.faults c.args.disk c.in-Ok.journal.disk c.args.setup c.in-Ok.bodies.items
    below.file below.any_moment below.calls below.steady below.same c.into_disk-in-Err-table_of.result c.in-Err-table_of.fault c.into_disk-in-Err-table_of.ensures why.0 why.1

pub returns-clause-ok : goal.returns-clause-ok
returns-clause-ok g c =
    let below = c.in-Ok.ensures in
    let found = c.in-Ok-table_of.ensures.ok in
    mounted g.D.Disk.name g.D.Disk.seen g.D.Disk.moment g.D.Disk.left g.D.Disk.calls g.D.Disk.makes g.D.Disk.faults c.args.disk c.in-Ok.journal.disk c.args.setup c.in-Ok.bodies.items
    below.file below.any_moment below.calls below.steady below.same
    (record { journal = c.in-Ok.journal; table = c.in-Ok-table_of.table; usage = c.new.result; setup = c.args.setup; start = c.of.result; begun = c.faults-begun.result; history = c.new-in-Ok-table_of.result })
    refl below.stands.0 below.stands.1 below.stands.2 below.stands.3 refl (search rules) c.new.ensures.items c.new-in-Ok-table_of.ensures c.faults-begun.ensures found.0 (search rules) c.requires.least
