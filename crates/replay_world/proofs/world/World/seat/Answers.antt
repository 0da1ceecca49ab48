use Rattle.std.proofs.Common.{◌≡◌, ◌∙◌, ◌++◌, ◌∷◌, ℕ, List, [], Option, Some, true, arith, ap, sym, refl}
use Rattle.std.specs.Prelude.{codes, is_some}
use Rattle.base_names.specs.declared.seat.Seat.{Seat}
use Rattle.session.specs.Session.{Session}
use Rattle.session.specs.Transcript.{first_session}
use Rattle.replay_world.proofs.Seats.{free_place, taken_place}
use Rattle.replay_world.proofs.Worlds.{seated_free, seated_taken}
use Rattle.replay_world.proofs.world.World.seat.Goals as goal
use Rattle.replay_world.specs.Steps.{Stepped, numbered, says}
use Rattle.replay_world.specs.Views.{disk_of, hub_on, view}
use Rattle.replay_world.specs.World.{World}

pub returns-then-is_some-clause-took : goal.returns-then-is_some-clause-took
returns-then-is_some-clause-took c =
    let seat : Seat = record { number = c.args.number; owner = c.args.owner; role = c.args.role } in
    (seated_taken (view c.args.self) seat (taken_place c.args.number c.args.self.sessions.items (first_session seat) c.place_of.result (sym c.place_of.ensures) (sym c.is_some.ensures ∙ c.if-is_some.true)), refl)

pub returns-clause-took : goal.returns-clause-took
returns-clause-took c =
    let seat : Seat = record { number = c.args.number; owner = c.args.owner; role = c.args.role } in
    let xs = c.args.self.sessions.items in
    let runs : is_some (hub_on c.args.self.machine) ≡ true = grind (arith, c.is_running.ensures, c.if-not-is_running.false) in
    let free = free_place c.args.number xs c.place_of.result (sym c.place_of.ensures) (sym c.is_some.ensures ∙ c.if-is_some.false) in
    let items : c.push.new.self.items ≡ xs ++ first_session seat ∷ [] = c.in_ok-push.ensures.items
    ∙ (ap (λ (s : Session). xs ++ s ∷ []) c.new.ensures ∙ ap (λ (n : ℕ). xs ++ first_session (record { number = n; owner = c.args.owner; role = c.args.role }) ∷ []) c.from.ensures) in (
      record { sound = c.requires.sound; whole = c.requires.whole },
      (
        numbered (codes "SEATED ") c.args.number,
        seated_free (view c.args.self) seat runs free
            ∙ ap (λ (ss : List Session). let w : World = record { setup = c.args.self.setup; disk = disk_of c.args.self.machine; hub = hub_on c.args.self.machine; sessions = ss } in let s : Option Stepped = Some (says w (numbered (codes "SEATED ") c.args.number)) in s) (sym items),
        c.in_ok-append_seated.ensures,
      ),
    )
