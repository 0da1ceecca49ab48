use Rattle.std.proofs.Common.{rules}
use Rattle.journal.proofs.Standing.{gate_here, some_doubt, settling, not_settled}
use Rattle.journal.proofs.journal.Journal.settle.Goals as goal

pub write_through-requires : goal.write_through-requires
write_through-requires g c = gate_here g.D.Disk.moment g.D.Disk.left c.args.self.now c.requires (g.D.Disk.seen c.args.self.now.disk) (g.met.D.Disk.reads_an_image c.args.self.now.disk)

pub returns-then-eq-clause-stands : goal.returns-then-eq-clause-stands
returns-then-eq-clause-stands g c =
    let s = c.requires in
    let d = some_doubt c.args.self.now (search rules) in
    record {
      end = s.end;
      short = s.short;
      small = s.small;
      room = s.room;
      least = s.least;
      images = not_settled g.D.Disk.moment g.D.Disk.left c.args.self.now s d.0 d.1 c.write_through.new.disk c.write_through.ensures.any_moment;
    }

pub returns-then-eq-clause-any_moment : goal.returns-then-eq-clause-any_moment
returns-then-eq-clause-any_moment g c =
    let d = some_doubt c.args.self.now (search rules) in
    settling g.D.Disk.moment g.D.Disk.left c.args.self.now c.requires d.0 d.1 c.write_through.new.disk c.write_through.ensures.any_moment

pub returns-clause-any_moment : goal.returns-clause-any_moment
returns-clause-any_moment g c =
    let d = some_doubt c.args.self.now (search rules) in
    settling g.D.Disk.moment g.D.Disk.left c.args.self.now c.requires d.0 d.1 c.write_through.new.disk c.write_through.ensures.any_moment
