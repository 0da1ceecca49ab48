-- Worlds and what steps make of them, by what is known of their parts.
use Rattle.std.proofs.Common.{◌≡◌, ℕ, Bool, true, false, List, [], ◌∷◌, ◌++◌, Option, None, Some, refl, ap, ◌∙◌, arith, if◌then◌else◌}
use Rattle.std.proofs.lemmas.Bool.Decides.{nat_tests}
use Rattle.std.specs.Prelude.{◌==◌, codes, is_some}
use Rattle.base_names.specs.declared.seat.Seat.{Seat}
use Rattle.cluster_defs.specs.Journal.{Event}
use Rattle.disk_model.specs.Memory.{DiskState, armed, restarted, with_fail, with_stop}
use Rattle.disk_model.specs.declared.image.Image.{Image}
use Rattle.disk_model.specs.declared.image.Arm.{Arm}
use Rattle.disk_model.specs.declared.image.Arm.TheVariants.{Fail, Stop}
use Rattle.session.specs.Session.{Session}
use Rattle.session.specs.Transcript.{first_session}
use Rattle.replay_world.specs.Events.{opening_event, start_event}
use Rattle.replay_world.specs.Hubs.{Hub, Opened, opened}
use Rattle.replay_world.specs.Steps.{Stepped, armed_text, hung, numbered, opening_text, says, seated, starts, stopped_text, stops, unless_stopped, with_disk}
use Rattle.replay_world.specs.World.{World, halted, session_at, without_seat}

-- ---- seats

closed_seated : (hub : Option Hub) (w : World) (seat : Seat) → w.hub ≡ hub → is_some hub ≡ false → seated w seat ≡ None
closed_seated None w seat is none = rw is refl
closed_seated (Some hub) w seat is none = absurd (cc)

pub seated_closed : (w : World) (seat : Seat) → is_some w.hub ≡ false → seated w seat ≡ None
seated_closed w seat none = closed_seated w.hub w seat refl none

taken_seated : (hub : Option Hub) (found : Option Session) (w : World) (seat : Seat) → w.hub ≡ hub → session_at seat.number w.sessions ≡ found → is_some found ≡ true → seated w seat ≡ None
taken_seated None found w seat is at some = rw is refl
taken_seated (Some hub) (Some session) w seat is at some = rw (is, at) refl
taken_seated (Some hub) None w seat is at some = absurd (cc)

pub seated_taken : (w : World) (seat : Seat) → is_some (session_at seat.number w.sessions) ≡ true → seated w seat ≡ None
seated_taken w seat some = taken_seated w.hub (session_at seat.number w.sessions) w seat refl refl some

free_seated : (hub : Option Hub) (w : World) (seat : Seat) → w.hub ≡ hub → is_some hub ≡ true → session_at seat.number w.sessions ≡ None
    → seated w seat ≡ Some (says (record w { sessions = w.sessions ++ first_session seat ∷ [] }) (numbered (codes "SEATED ") seat.number))
free_seated None w seat is some free = absurd (cc)
free_seated (Some hub) w seat is some free = rw (is, free) refl

pub seated_free : (w : World) (seat : Seat) → is_some w.hub ≡ true → session_at seat.number w.sessions ≡ None
    → seated w seat ≡ Some (says (record w { sessions = w.sessions ++ first_session seat ∷ [] }) (numbered (codes "SEATED ") seat.number))
seated_free w seat some free = free_seated w.hub w seat refl some free

pub hung_nobody : (w : World) (seat : ℕ) → session_at seat w.sessions ≡ None → hung w seat ≡ None
hung_nobody w seat none = rw none refl

pub hung_at : (w : World) (seat : ℕ) (session : Session) (sessions : List Session) → session_at seat w.sessions ≡ Some session → sessions ≡ without_seat seat w.sessions → hung w seat ≡ Some (says (record w { sessions = sessions }) (numbered (codes "HUNG ") seat))
hung_at w seat session sessions found is = rw (found, is) refl

-- ---- stops

pub stopped_says : (w : World) (text : List ℕ) → is_some w.disk.stopped ≡ true → unless_stopped (says w text) ≡ says (halted w) stopped_text
stopped_says w text is = ap (λ (b : Bool). if b then says (halted w) stopped_text else says w text) is

pub going_says : (w : World) (text : List ℕ) → is_some w.disk.stopped ≡ false → unless_stopped (says w text) ≡ says w text
going_says w text is = ap (λ (b : Bool). if b then says (halted w) stopped_text else says w text) is

-- ---- arming

stop_refused : (now stopped : Bool) (s a b : DiskState) → a.refused ≡ s.refused → b.refused ≡ s.refused → (if now then (if stopped then s else a) else b).refused ≡ s.refused
stop_refused true true s a b p q = refl
stop_refused true false s a b p q = p
stop_refused false stopped s a b p q = q

pub armed_refused : (arm : Arm) (s : DiskState) → (armed arm s).refused ≡ s.refused
armed_refused (Fail k) s = refl
armed_refused (Stop k image) s = stop_refused (k == 0) (is_some s.stopped) s _ _ refl refl

-- ---- openings

pub starts_open : (w : World) → is_some w.hub ≡ true → starts w ≡ None
starts_open w some = ap (λ (b : Bool). let o = opened (restarted w.disk) in let s : Option Stepped = Some (unless_stopped (says (record w { disk = o.disk; hub = o.hub }) (opening_text o.hub))) in if b then None else s) some

pub starts_again : (w : World) (disk : DiskState) (hub : Option Hub) → is_some w.hub ≡ false → opened (restarted w.disk) ≡ record { disk = disk; hub = hub } → starts w ≡ Some (unless_stopped (says (record w { disk = disk; hub = hub }) (opening_text hub)))
starts_again w disk hub none is =
    ap (λ (b : Bool). let o = opened (restarted w.disk) in let s : Option Stepped = Some (unless_stopped (says (record w { disk = o.disk; hub = o.hub }) (opening_text o.hub))) in if b then None else s) none
    ∙ ap (λ (o : Opened). let s : Option Stepped = Some (unless_stopped (says (record w { disk = o.disk; hub = o.hub }) (opening_text o.hub))) in s) is

-- what it is to the journal
pub start_event_open : (w : World) → is_some w.hub ≡ true → start_event w ≡ None
start_event_open w some = ap (λ (b : Bool). let e : Option Event = Some (opening_event (opened (restarted w.disk)).hub) in if b then None else e) some

pub start_event_again : (w : World) (disk : DiskState) (hub : Option Hub) → is_some w.hub ≡ false → opened (restarted w.disk) ≡ record { disk = disk; hub = hub } → start_event w ≡ Some (opening_event hub)
start_event_again w disk hub none is =
    ap (λ (b : Bool). let e : Option Event = Some (opening_event (opened (restarted w.disk)).hub) in if b then None else e) none
    ∙ ap (λ (o : Opened). let e : Option Event = Some (opening_event o.hub) in e) is

-- ---- what is armed

is_later : (k : ℕ) → (k ≡ 0 → ⊥) → (k == 0) ≡ false
is_later k later = grind (arith, nat_tests, later)

pub by_fault : (w : World) (k : ℕ) → (k ≡ 0 → ⊥)
    → (if k == 0 then None else Some (says (with_disk w (with_fail k w.disk)) armed_text)) ≡ Some (says (with_disk w (armed (Fail k) w.disk)) armed_text)
by_fault w k later = ap (λ (b : Bool). let s : Option Stepped = Some (says (with_disk w (with_fail k w.disk)) armed_text) in if b then None else s) (is_later k later)

pub by_stop : (w : World) (k : ℕ) (image : Image) → (k ≡ 0 → ⊥) → Some (stops w k image) ≡ Some (says (with_disk w (armed (Stop k image) w.disk)) armed_text)
by_stop w k image later = ap (λ (b : Bool). let v = with_disk w (with_stop k image w.disk) in let s : Option Stepped = Some (if b then says (halted v) stopped_text else says v armed_text) in s) (is_later k later)
