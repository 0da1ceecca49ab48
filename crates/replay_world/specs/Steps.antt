-- What each step of a script does to the world, and what it writes.
use Rattle.std.specs.Prelude.{ℕ, ◌==◌, Bool, List, [], ◌∷◌, ◌++◌, length, codes, decimal, Option, Some, None, is_some, option_map, option_and_then, Result, if◌then◌else◌}
use Rattle.base_names.specs.declared.refusal.Refusal.{Refusal}
use Rattle.base_names.specs.declared.refusal.Refusal.TheVariants.{MEMORY}
use Rattle.base_names.specs.declared.seat.Seat.{Seat}
use Rattle.disk_model.specs.Memory.{DiskState, restarted, with_fail, with_stop}
use Rattle.disk_model.specs.declared.image.Image.{Image}
use Rattle.cluster_defs.specs.declared.reply.Reply.TheVariants.{Refused}
use Rattle.session.specs.Hearing.{Heard, Enough, Short, is_last, line_effect}
use Rattle.hub_core.specs.declared.setup.Setup.{Setup}
use Rattle.model_data.specs.declared.batch.BatchBody.{BatchBody}
use Rattle.model_data.specs.declared.batch.BatchResult.{BatchResult}
use Rattle.session.specs.Session.{Call, Effect, Session}
use Rattle.session.specs.Transcript.{first_session}
use Rattle.wire_text.specs.Commands.{command_of_words}
use Rattle.wire_text.specs.declared.command.Command.{Command}
use Rattle.script_text.specs.declared.step.Step.{Step}
use Rattle.script_text.specs.declared.step.Step.TheVariants.{Limits, Seat as SeatStep, At, Hang, Fault, Stop, Open}
use Rattle.replay_world.specs.Hubs.{Asked, Hub, asked, opened}
use Rattle.replay_world.specs.World.{World, halted, session_at, with_session, without_seat}

-- What a step finds of memory. Where its call of the hub, or the session itself, finds none, the answer is MEMORY; the latter says
-- whether what is queued was applied before.
pub data Memory : Type 0 where
  Found : Memory
  NoneForHub : Memory
  NoneForSession : (has_applied : Bool) → Memory

-- the world behind a step, and what it writes
pub record Stepped : Type 0 where
  pub world : World
  pub text : List ℕ

abbrev pub says : World → (text : List ℕ) → Stepped
says w text = record { world = w; text = text }

-- a word, a number, and the end of the line
abbrev pub numbered : (word : List ℕ) → ℕ → List ℕ
numbered word n = word ++ decimal n ++ codes "\n"

abbrev pub stopped_text : List ℕ
stopped_text = codes "STOPPED\n"

-- A stop that came in the step leaves that alone to be said.
abbrev pub unless_stopped : Stepped → Stepped
unless_stopped s = if is_some s.world.disk.stopped then says (halted s.world) stopped_text else s

-- ---- seats

-- a session begins at a free seat of an open hub
abbrev pub seated : World → Seat → Option Stepped
seated w seat =
    option_and_then (λ hub. if is_some (session_at seat.number w.sessions) then None
    else Some (says (record w { sessions = w.sessions ++ first_session seat ∷ [] }) (numbered (codes "SEATED ") seat.number))) w.hub

-- a session's input ends
abbrev pub hung : World → ℕ → Option Stepped
hung w seat =
    option_map (λ session. says (record w { sessions = without_seat seat w.sessions }) (numbered (codes "HUNG ") seat)) (session_at seat w.sessions)

-- ---- a command line

-- what the line heard, and the hub and its disk then
pub record Hears : Type 0 where
  pub heard : Heard
  pub hub : Hub
  pub disk : DiskState

abbrev pub reply_heard : Asked → Hears
reply_heard a = record { heard = Enough (a.reply ∷ []); hub = a.hub; disk = a.disk }

-- What batches come to isn't looked at.
module _ (plain : BatchBody → BatchResult) where
  -- the hub's reply to what the line asks
  abbrev pub hears_calls : Setup → Seat → Hub → DiskState → List Call → Hears
  hears_calls setup seat hub s [] = record { heard = Enough []; hub = hub; disk = s }
  hears_calls setup seat hub s (call ∷ calls) = reply_heard (asked plain setup hub seat call.ask s)

  -- What a line asks doesn't rest on what it hears.
  abbrev pub hears : Setup → Hub → DiskState → Session → Result Command Refusal → (block : List ℕ) → Memory → Hears
  hears setup hub s session command block Found = hears_calls setup session.seat hub s (line_effect session command block (Enough [])).calls
  hears setup hub s session command block NoneForHub = record { heard = Enough (Refused MEMORY ∷ []); hub = hub; disk = s }
  hears setup hub s session command block (NoneForSession has_applied) = record { heard = Short has_applied; hub = hub; disk = s }

-- the text that a session wrote, behind its length
abbrev pub out_text : (seat : ℕ) → (text : List ℕ) → List ℕ
out_text seat text = codes "OUT " ++ decimal seat ++ codes " " ++ decimal (length text) ++ codes "\n" ++ text

abbrev pub sessions_after : ℕ → (last : Bool) → Session → List Session → List Session
sessions_after seat last session sessions = if last then without_seat seat sessions else with_session seat session sessions

abbrev pub answered_with : World → (seat : ℕ) → Result Command Refusal → Effect → Hears → Stepped
answered_with w seat command e h = unless_stopped (says (record w { disk = h.disk; hub = Some h.hub; sessions = sessions_after seat (is_last command h.heard) e.session w.sessions }) (out_text seat e.text))

abbrev pub answered_by : World → (seat : ℕ) → Session → Result Command Refusal → (block : List ℕ) → Hears → Stepped
answered_by w seat session command block h = answered_with w seat command (line_effect session command block h.heard) h

-- ---- the machine

abbrev pub armed_text : List ℕ
armed_text = codes "ARMED\n"

abbrev pub with_disk : World → DiskState → World
with_disk w s = record w { disk = s }

-- A stop at once is one also of a machine that is stopped.
abbrev pub stops : World → (k : ℕ) → Image → Stepped
stops w k image = let v = with_disk w (with_stop k image w.disk) in if k == 0 then says (halted v) stopped_text else says v armed_text

abbrev pub opening_text : Option Hub → List ℕ
opening_text None = codes "NOTOPEN\n"
opening_text (Some hub) = numbered (codes "OPENED ") (length hub.store.table.rows)

-- The machine starts again behind a stop, or behind an opening that failed.
abbrev pub starts : World → Option Stepped
starts w =
    if is_some w.hub then None
    else (let o = opened (restarted w.disk) in
    Some (unless_stopped (says (record w { disk = o.disk; hub = o.hub }) (opening_text o.hub))))

-- ---- any step

module _ (plain : BatchBody → BatchResult) where
  -- a seat's session gets a line with its block
  abbrev pub given : World → (seat : ℕ) → (words : List (List ℕ)) → (block : List ℕ) → Memory → Option Stepped
  given w seat words block memory =
      option_and_then (λ hub. option_map (λ session. answered_by w seat session (command_of_words words) block
      (hears plain w.setup hub w.disk session (command_of_words words) block memory)) (session_at seat w.sessions)) w.hub

  -- none where its condition doesn't hold; limits stand in the first line alone, and the first call that may fail is the next
  abbrev pub stepped : World → Step → (words : List (List ℕ)) → (block : List ℕ) → Memory → Option Stepped
  stepped w (Limits commands bytes journal) words block memory = None
  stepped w (SeatStep number owner role) words block memory = seated w record { number = number; owner = owner; role = role }
  stepped w (At number) words block memory = given w number words block memory
  stepped w (Hang number) words block memory = hung w number
  stepped w (Fault k) words block memory = if k == 0 then None else Some (says (with_disk w (with_fail k w.disk)) armed_text)
  stepped w (Stop k image) words block memory = Some (stops w k image)
  stepped w Open words block memory = starts w
