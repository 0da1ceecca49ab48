use Rattle.std.proofs.Common.{rules, ◌≡◌, ◌∙◌, ap, sym, subst, ℕ, List, [], ◌∷◌, ◌++◌, length, map, ◌+◌, ◌^◌, ◌<◌, Option, None, Some, IfSome, append_assoc}
use Rattle.std.proofs.lemmas.List.{map-append}
use Rattle.journal.specs.Records.{IsClosed, IsDoubtful, StandsFor, AreShort, front}
use Rattle.journal.specs.Standing.{body_in, bodies_of, doubt_of}
use Rattle.journal.specs.declared.journal.Journal.{Journal}
use Rattle.disk_model.specs.declared.answer.DiskDone.TheVariants.{Done}
use Rattle.journal.proofs.Standing.{gate_here, opening, in_doubt_now, opened_now, short_more, end_more, body_of_record, stands_as}
use Rattle.journal.proofs.journal.Journal.open_gate.Goals as goal

pub write_through-requires : goal.write_through-requires
write_through-requires g c = gate_here g.D.Disk.moment g.D.Disk.left c.args.self.now c.requires.stands (g.D.Disk.seen c.args.self.now.disk) (g.met.D.Disk.reads_an_image c.args.self.now.disk)

pub returns-then-eq-clause-stands : goal.returns-then-eq-clause-stands
returns-then-eq-clause-stands g c =
    let s = c.requires.stands in
    let old = c.args.self.now in
    let body_is : body_in c.of.result.value.items ≡ c.args.body.now = ap (λ v. body_in v.items) c.of.ensures ∙ ap body_in c.requires.buffer ∙ body_of_record c.args.body.now in
    record {
      end = s.end;
      short = s.short;
      small = subst (λ (b : List ℕ). length b < 256 ^ 4) (sym body_is) c.requires.short;
      room = s.room;
      least = s.least;
      images = λ image left. subst (λ (b : List ℕ). IsDoubtful (bodies_of old) b image) (sym body_is) (in_doubt_now g.D.Disk.moment g.D.Disk.left old s c.args.body.now c.requires.short c.requires.staged c.write_through.new.disk c.write_through.ensures.any_moment image left);
    }

pub returns-then-eq-clause-any_moment : goal.returns-then-eq-clause-any_moment
returns-then-eq-clause-any_moment g c = opening g.D.Disk.moment g.D.Disk.left c.args.self.now c.requires.stands c.args.body.now c.requires.short c.requires.staged c.write_through.new.disk c.write_through.ensures.any_moment

pub returns-clause-stands : goal.returns-clause-stands
returns-clause-stands g c =
    let s = c.requires.stands in
    let old = c.args.self.now in
    let body = c.args.body.now in
    let done : c.write_through.result ≡ Done = search rules in
    let new : Journal g.row.D.Denot = record { disk = c.write_through.new.disk; end = old.end + 5 + length body; limit = old.limit; room = old.room; reserved = old.reserved; doubt = old.doubt; found = old.found; added = c.and-self.result } in
    let bodies_are : bodies_of new ≡ bodies_of old ++ body ∷ [] =
    ap (λ (l : List (List ℕ)). old.found.value.items ++ l) (ap (map (λ added. body_in added.0.items)) c.and-self.ensures ∙ map-append (λ added. body_in added.0.items) old.added.items ((old.room, old.end) ∷ []) ∙ ap (λ (b : List ℕ). map (λ added. body_in added.0.items) old.added.items ++ b ∷ []) (ap body_in c.requires.buffer ∙ body_of_record body))
    ∙ sym (append_assoc old.found.value.items (map (λ added. body_in added.0.items) old.added.items) (body ∷ [])) in
    record {
      end = end_more (bodies_of old) body old.end s.end ∙ ap (λ (bs : List (List ℕ)). length (front bs)) (sym bodies_are);
      short = subst AreShort (sym bodies_are) (short_more (bodies_of old) body s.short c.requires.short);
      small = s.small;
      room = s.room;
      least = s.least;
      images = λ image left. subst (λ (bs : List (List ℕ)). StandsFor bs (doubt_of old) image) (sym bodies_are)
          (stands_as (bodies_of old ++ body ∷ []) None (doubt_of old) image (sym c.requires.settled) (opened_now g.D.Disk.moment g.D.Disk.left old s body c.requires.short c.requires.staged (g.D.Disk.seen old.disk) (g.met.D.Disk.reads_an_image old.disk) image (c.write_through.ensures.done done image left)));
    }

pub returns-clause-any_moment : goal.returns-clause-any_moment
returns-clause-any_moment g c = opening g.D.Disk.moment g.D.Disk.left c.args.self.now c.requires.stands c.args.body.now c.requires.short c.requires.staged c.write_through.new.disk c.write_through.ensures.any_moment
