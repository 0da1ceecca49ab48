use Rattle.std.proofs.Common.{rules, ◌≡◌, ◌∙◌, ap, subst, ℕ, List, [], ◌∷◌, ◌++◌, length, ◌+◌, arith}
use Rattle.journal.specs.Records.{record_of}
use Rattle.journal.specs.Putting.{IsPut}
use Rattle.journal.proofs.Standing.{gate_in_file, staging, still_closed, staged_now}
use Rattle.journal.proofs.journal.Journal.stage.Goals as goal

pub write_through-requires : goal.write_through-requires
write_through-requires g c = gate_in_file g.D.Disk.moment g.D.Disk.left c.args.self.now c.requires.stands (g.D.Disk.seen c.args.self.now.disk) (g.met.D.Disk.reads_an_image c.args.self.now.disk)

pub returns-clause-stands : goal.returns-clause-stands
returns-clause-stands g c =
    let s = c.requires.stands in
    record {
      end = s.end;
      short = s.short;
      small = s.small;
      room = omega (arith, s.room, c.spell.ensures.room);
      least = s.least;
      images = still_closed g.D.Disk.moment g.D.Disk.left c.args.self.now s c.requires.settled c.write_through.new.disk (length c.deref.result.now) c.write_through.ensures.any_moment;
    }

pub returns-clause-staged : goal.returns-clause-staged
returns-clause-staged g c done image left =
    let bytes_are : c.deref.result.now ≡ record_of c.args.body.now ++ 0 ∷ [] = c.deref.ensures.value ∙ c.spell.ensures.bytes in
    let put = c.write_through.ensures.done done image left in
    staged_now g.D.Disk.moment g.D.Disk.left c.args.self.now c.requires.stands c.requires.settled (g.D.Disk.seen c.args.self.now.disk) (g.met.D.Disk.reads_an_image c.args.self.now.disk) c.args.body.now image
    (subst (λ (b : List ℕ). IsPut (c.args.self.now.end + 1) b (g.D.Disk.seen c.args.self.now.disk) image) bytes_are put)

pub returns-clause-any_moment : goal.returns-clause-any_moment
returns-clause-any_moment g c = staging g.D.Disk.moment g.D.Disk.left c.args.self.now c.requires.stands c.requires.settled c.write_through.new.disk (length c.deref.result.now) c.write_through.ensures.any_moment
