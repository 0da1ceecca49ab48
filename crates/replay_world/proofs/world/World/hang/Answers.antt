use Rattle.std.proofs.Common.{◌≡◌, ◌∙◌, Some, ap, sym, subst, refl}
use Rattle.std.specs.Prelude.{codes}
use Rattle.replay_world.proofs.Seats.{no_session, session_place, without_place}
use Rattle.replay_world.proofs.Worlds.{hung_at, hung_nobody}
use Rattle.replay_world.proofs.world.World.hang.Goals as goal
use Rattle.replay_world.specs.Steps.{hung, numbered, says}
use Rattle.replay_world.specs.Views.{HasJournal, IsSound, disk_of, hub_on, view}
use Rattle.replay_world.specs.declared.machine.Machine.{Machine}

pub returns-in_default-clause-took : goal.returns-in_default-clause-took
returns-in_default-clause-took c = (hung_nobody (view c.args.self) c.args.number (no_session c.args.number c.args.self.sessions.items (sym c.place_of.ensures ∙ c.in_default.is)), refl)

pub returns-clause-took : goal.returns-clause-took
returns-clause-took c =
    let at = sym c.place_of.ensures ∙ c.in-Some.is in
    let xs = c.args.self.sessions.items in (
      record {
        sound = subst (λ (m : Machine). IsSound c.args.self.setup m) (sym c.hang.ensures) c.requires.sound;
        whole = ap (λ (m : Machine). (disk_of m).refused) c.hang.ensures ∙ c.requires.whole;
      },
      (
        numbered (codes "HUNG ") c.args.number,
        subst (λ (m : Machine). hung (view c.args.self) c.args.number ≡ Some (says (record { setup = c.args.self.setup; disk = disk_of m; hub = hub_on m; sessions = c.remove-session.new.self.items }) (numbered (codes "HUNG ") c.args.number))) (sym c.hang.ensures)
            (hung_at (view c.args.self) c.args.number _ c.remove-session.new.self.items (session_place c.args.number xs c.in-Some.place c.remove-session.result at)
            (c.remove-session.ensures.items ∙ sym (without_place c.args.number xs c.in-Some.place c.remove-session.result at))),
        c.in_ok-append_hung.ensures,
      ),
    )

pub returns-clause-journal : goal.returns-clause-journal
returns-clause-journal c = λ j has. subst (λ (m : Machine). HasJournal j m) (sym c.hang.ensures) has
