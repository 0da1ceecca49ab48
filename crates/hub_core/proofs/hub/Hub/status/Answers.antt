use Rattle.hub_core.proofs.Answered.{status_asked, status_stands}
use Rattle.hub_core.proofs.hub.Hub.status.Goals as goal

pub returns-clause-stands : goal.returns-clause-stands
returns-clause-stands g c = status_stands g.D.Disk.name g.D.Disk.moment g.D.Disk.left g.D.Disk.calls g.D.Disk.makes g.D.Disk.faults c.args.self.now c.requires.stands c.args.seat.now c.args.id c.requires.free c.note.new.self
    c.told_status-reply.result c.faults-now.result c.told_status-reply.ensures c.faults-now.ensures c.note.ensures.noted c.note.ensures.rest.0 c.note.ensures.rest.2

pub returns-clause-asked : goal.returns-clause-asked
returns-clause-asked g c = status_asked g.D.Disk.name g.D.Disk.moment g.D.Disk.left g.D.Disk.calls g.D.Disk.makes g.D.Disk.faults c.args.self.now c.requires.stands c.args.seat.now c.args.id c.requires.free c.note.new.self
    c.told_status-reply.result c.faults-now.result c.told_status-reply.ensures c.faults-now.ensures c.note.ensures.noted
