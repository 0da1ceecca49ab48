-- What each step of a script is to the journal on its disk: the record of what was asked was kept, or its call failed or was stopped;
-- an opening; or nothing.
use Rattle.std.specs.Prelude.{ℕ, List, [], ◌∷◌, Option, Some, None, is_some, option_and_then, if◌then◌else◌}
use Rattle.base_names.specs.declared.seat.Seat.{Seat}
use Rattle.cluster_defs.specs.Appended.{record_of}
use Rattle.cluster_defs.specs.Asks.{asked_today}
use Rattle.cluster_defs.specs.Entries as answers
use Rattle.cluster_defs.specs.Journal.{Event, was_not_opened, was_opened}
use Rattle.cluster_defs.specs.Life.{event_of}
use Rattle.cluster_defs.specs.Replies.{told_today}
use Rattle.cluster_defs.specs.declared.ask.Ask.{Ask}
use Rattle.cluster_defs.specs.declared.reply.Reply.{Reply}
use Rattle.disk_model.specs.Memory.{restarted}
use Rattle.model_data.specs.declared.batch.BatchBody.{BatchBody}
use Rattle.model_data.specs.declared.batch.BatchResult.{BatchResult}
use Rattle.script_text.specs.declared.step.Step.{Step}
use Rattle.script_text.specs.declared.step.Step.TheVariants.{Limits, Seat as SeatStep, At, Hang, Fault, Stop, Open}
use Rattle.session.specs.Hearing.{line_effect}
use Rattle.session.specs.Session.{Call}
use Rattle.wire_text.specs.Commands.{command_of_words}
use Rattle.replay_world.specs.Hubs.{Hub, opened}
use Rattle.replay_world.specs.Steps.{Memory, hears}
use Rattle.replay_world.specs.World.{World, session_at}

-- what was asked, and replied or stopped
abbrev pub reply_event : Hub → Seat → Ask → Reply → Option Event
reply_event hub seat ask reply = event_of (answers.Reply (told_today reply)) (record_of hub.store.table [] seat (asked_today ask))

-- A line asks once at most.
abbrev pub calls_event : Hub → Seat → List Call → Option Event
calls_event hub seat [] = None
calls_event hub seat (call ∷ calls) = reply_event hub seat call.ask call.reply

-- by the hub that was opened, where one was
abbrev pub opening_event : Option Hub → Event
opening_event None = was_not_opened
opening_event (Some hub) = was_opened

abbrev pub start_event : World → Option Event
start_event w = if is_some w.hub then None else Some (opening_event (opened (restarted w.disk)).hub)

-- What batches come to isn't looked at.
module _ (plain : BatchBody → BatchResult) where
  -- by what the line asked and heard
  abbrev pub given_event : World → (seat : ℕ) → (words : List (List ℕ)) → (block : List ℕ) → Memory → Option Event
  given_event w seat words block memory =
      option_and_then (λ hub. option_and_then (λ session. calls_event hub session.seat (line_effect session (command_of_words words) block
      (hears plain w.setup hub w.disk session (command_of_words words) block memory).heard).calls) (session_at seat w.sessions)) w.hub

  abbrev pub step_event : World → Step → (words : List (List ℕ)) → (block : List ℕ) → Memory → Option Event
  step_event w (Limits commands bytes journal) words block memory = None
  step_event w (SeatStep number owner role) words block memory = None
  step_event w (At number) words block memory = given_event w number words block memory
  step_event w (Hang number) words block memory = None
  step_event w (Fault k) words block memory = None
  step_event w (Stop k image) words block memory = None
  step_event w Open words block memory = start_event w
