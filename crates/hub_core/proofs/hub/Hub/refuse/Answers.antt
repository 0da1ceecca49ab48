use Rattle.hub_core.proofs.Answered.{refused_asked, refused_stands}
use Rattle.hub_core.proofs.hub.Hub.refuse.Goals as goal

pub returns-clause-stands : goal.returns-clause-stands
returns-clause-stands g c = refused_stands g.D.Disk.name g.D.Disk.moment g.D.Disk.left g.D.Disk.calls g.D.Disk.makes g.D.Disk.faults c.args.self.now c.requires.stands c.args.seat.now c.args.body c.args.refusal c.args.bytes c.requires.free c.requires.bytes c.requires.refused c.note.new.self
    c.faults-now.result c.faults-now.ensures c.note.ensures.noted c.note.ensures.rest.0 c.note.ensures.rest.2

pub returns-clause-asked : goal.returns-clause-asked
returns-clause-asked g c = refused_asked g.D.Disk.name g.D.Disk.moment g.D.Disk.left g.D.Disk.calls g.D.Disk.makes g.D.Disk.faults c.args.self.now c.requires.stands c.args.seat.now c.args.body c.args.refusal c.args.bytes c.requires.free c.requires.bytes c.requires.refused c.note.new.self
    c.faults-now.result c.faults-now.ensures c.note.ensures.noted
