use Rattle.std.proofs.Common.{refl, rules, ◌≡◌, true}
use Rattle.hub_core.proofs.Answered.{full_asked, memory_asked}
use Rattle.hub_core.proofs.hub.Hub.ask.Goals as goal
use Rattle.hub_core.specs.Answering.{at_limit}
use Rattle.hub_core.specs.State.{state_of}

pub returns-then-is_at_limit-clause-asked : goal.returns-then-is_at_limit-clause-asked
returns-then-is_at_limit-clause-asked g c =
    let full : at_limit (state_of c.args.self.now) c.args.seat.now.owner ≡ true = search rules in
    full_asked g.D.Disk.name g.D.Disk.moment g.D.Disk.left g.D.Disk.calls g.D.Disk.makes g.D.Disk.faults c.args.self.now c.requires.stands c.args.seat.now c.args.ask full

pub returns-then-is_err-clause-asked : goal.returns-then-is_err-clause-asked
returns-then-is_err-clause-asked g c = memory_asked g.D.Disk.name g.D.Disk.moment g.D.Disk.left g.D.Disk.calls g.D.Disk.makes g.D.Disk.faults c.args.self.now c.requires.stands c.args.seat.now _ _ c.make_room.ensures.same
