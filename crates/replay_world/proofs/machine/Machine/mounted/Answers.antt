use Rattle.std.proofs.Common.{◌≡◌, ◌∙◌, arith, sym, ap, subst, refl, Some, None}
use Rattle.desk.specs.Desks.{Held}
use Rattle.disk_model.specs.ImageLaws.{left_seen}
use Rattle.disk_model.specs.Memory.{DiskState}
use Rattle.cluster_defs.specs.Journal.{was_opened}
use Rattle.hub_core.specs.Keeping.{Keeps}
use Rattle.hub_core.specs.State.{journal_of, state_of}
use Rattle.replay_world.proofs.Opening.{mounted_is, mounting_keeps, not_mounted_is}
use Rattle.replay_world.proofs.machine.Machine.mounted.Goals as goal
use Rattle.replay_world.specs.Hubs.{hub_of_state, opened}
use Rattle.replay_world.specs.Views.{Continues, KeepsAll, KeepsOne}
use Rattle.replay_world.specs.declared.machine.Machine.TheVariants.{Running}

pub returns-in-Ok-clause-opened : goal.returns-in-Ok-clause-opened
returns-in-Ok-clause-opened c = λ whole. subst (λ (d : Held DiskState). opened c.args.disk ≡ record { disk = d.hub.disk; hub = Some (hub_of_state d.hub) }) (sym c.new.ensures)
    (mounted_is c.args.setup c.args.disk c.in-Ok.hub c.in-Ok.ensures.ok (ap (λ (d : Held DiskState). d.hub.disk.refused) (sym c.new.ensures) ∙ whole))

pub returns-in-Ok-clause-journal : goal.returns-in-Ok-clause-journal
returns-in-Ok-clause-journal c = λ j keeps.
    let file = c.args.disk.stored.bytes in
    let h = c.in-Ok.hub in
    let becomes = c.an_opening_follows_the_journal.ensures.opened c.args.disk c.args.setup h keeps.0 j file refl (keeps.1 file (left_seen c.args.disk.past c.args.disk.stored file refl)) c.in-Ok.ensures.ok in
    subst (λ (d : Held DiskState). Continues (Some was_opened) j (Running d)) (sym c.new.ensures) (journal_of (state_of h), (tt, becomes), (refl, c.in-Ok.ensures.ok.stands.sound.table))

pub returns-else-eq-clause-journal : goal.returns-else-eq-clause-journal
returns-else-eq-clause-journal c = λ j keeps. (
  j,
  (tt, (refl, refl)),
  subst (KeepsAll j) (sym c.into_disk.ensures)
      (keeps.0, mounting_keeps keeps.0 j c.args.disk c.in-Err.refused.disk (c.a_mounting_keeps_the_journal.ensures c.args.disk c.in-Err.refused.disk keeps.0 j) c.in-Err.ensures.err.any_moment keeps.1),
)

pub returns-else-eq-clause-sound : goal.returns-else-eq-clause-sound
returns-else-eq-clause-sound c =
    let limit = c.args.setup.limits.journal in
    let j = c.requires.keeps.0 in
    record {
      least = c.requires.least;
      set_up = tt;
      readable = subst (KeepsOne limit) (sym c.into_disk.ensures)
          (j, mounting_keeps limit j c.args.disk c.in-Err.refused.disk (c.a_mounting_keeps_the_journal.ensures c.args.disk c.in-Err.refused.disk limit j) c.in-Err.ensures.err.any_moment c.requires.keeps.1);
    }

pub returns-else-eq-clause-opened : goal.returns-else-eq-clause-opened
returns-else-eq-clause-opened c =
    let file = c.args.disk.stored.bytes in
    let limit = c.args.setup.limits.journal in
    let j = c.requires.keeps.0 in
    let kept : Keeps limit j file = c.requires.keeps.1 file (left_seen c.args.disk.past c.args.disk.stored file refl) in
    λ whole. subst (λ (d : DiskState). opened c.args.disk ≡ record { disk = d; hub = None }) (sym c.into_disk.ensures)
    (not_mounted_is c.args.setup c.args.disk c.in-Err.refused c.in-Err.ensures.err (ap (λ (d : DiskState). d.refused) (sym c.into_disk.ensures) ∙ whole)
    (λ is. absurd (grind (arith, is, c.eq.ensures, c.if-eq.false)))
    (λ head is. c.an_opening_follows_the_journal.ensures.no_other_file c.args.disk c.args.setup c.in-Err.refused limit j file head refl kept c.in-Err.ensures.err is)
    (λ k is. c.an_opening_follows_the_journal.ensures.no_bad_record c.args.disk c.args.setup c.in-Err.refused limit j file k refl kept c.in-Err.ensures.err is)
    (λ sum is. c.an_opening_follows_the_journal.ensures.never_too_full c.args.disk c.args.setup c.in-Err.refused limit j file sum refl kept (omega arith) c.in-Err.ensures.err is))
