-- What a session that answers a line does to its hub, and to the sessions beside it.
use Rattle.std.specs.Prelude.{ℕ, ◌≡◌, List, Result}
use Rattle.base_names.specs.declared.refusal.Refusal.{Refusal}
use Rattle.base_names.specs.declared.seat.Seat.{Seat}
use Rattle.cluster_defs.specs.declared.ask.Ask.{Ask}
use Rattle.cluster_defs.specs.declared.reply.Reply.{Reply}
use Rattle.disk_model.specs.Memory.{CallMade, DiskState, calls_of, left_of, moment_of}
use Rattle.desk.specs.Desks.{Held}
use Rattle.hub_core.specs.Answering.{Asked}
use Rattle.session.specs.Hearing.{Heard, WasAsked, is_last, line_effect}
use Rattle.session.specs.Session.{Session}
use Rattle.wire_text.specs.declared.command.Command.{Command}
use Rattle.replay_world.specs.Steps.{sessions_after}

-- what an ask makes of a desk over a disk in memory
abbrev pub AskedOf : Held DiskState → Seat → Ask → Reply → Held DiskState → Type 0
AskedOf old seat ask reply new = Asked (λ s. 0) moment_of left_of calls_of CallMade (λ s. s.faults) old.hub new.hub seat ask reply

-- By what the line heard: what was asked of the hub, what was written, and the sessions behind it.
pub record Answered (number : ℕ) (session : Session) (command : Result Command Refusal) (block : List ℕ) (old new : Held DiskState) (sessions sessions' : List Session) (text : List ℕ) : Type 0 where
  pub heard : Heard
  pub asked : WasAsked AskedOf session.seat old (line_effect session command block heard).calls new
  pub wrote : text ≡ (line_effect session command block heard).text
  pub after : sessions' ≡ sessions_after number (is_last command heard) (line_effect session command block heard).session sessions
