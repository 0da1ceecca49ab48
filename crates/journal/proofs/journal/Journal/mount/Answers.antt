use Rattle.std.proofs.Common.{◌≡◌, ◌≤◌, ◌∙◌, ap, sym, subst, ℕ, List, [], ◌++◌, length, refl, rules, arith}
use Rattle.std.proofs.lemmas.List.{append-nil}
use Rattle.journal.specs.Records.{front, AreShort, IsClosed}
use Rattle.journal.proofs.Standing.{found_bodies}
use Rattle.journal.proofs.journal.Journal.mount.Goals as goal

pub returns-in-Ok-clause-stands : goal.returns-in-Ok-clause-stands
returns-in-Ok-clause-stands g c =
    let bodies = c.in-Ok.bodies.items in
    let is = found_bodies c.of.result c.new-in-Ok.result.items c.in-Ok.bodies c.of.ensures c.new-in-Ok.ensures in
    let told = c.in-Ok.ensures.ok in (
      record {
        end = told.0 ∙ ap (λ (bs : List (List ℕ)). length (front bs)) (sym is);
        short = subst AreShort (sym is) told.1;
        small = tt;
        room = omega arith;
        least = omega arith;
        images = λ image left. subst (λ (bs : List (List ℕ)). IsClosed bs image) (sym is) (c.in-Ok.ensures.closed image left);
      },
      is,
      refl,
      refl,
    )
