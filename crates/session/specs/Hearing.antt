-- What a session hears beside its lines: what the desk replies, and that there is no memory.
use Rattle.std.specs.Prelude.{◌≡◌, Bool, true, false, List, [], ◌∷◌, ◌++◌, ℕ, Result, Ok, Err, if◌then◌else◌}
use Rattle.base_names.specs.declared.refusal.Refusal.{Refusal}
use Rattle.base_names.specs.declared.refusal.Refusal.TheVariants.{MEMORY}
use Rattle.base_names.specs.declared.seat.Seat.{Seat}
use Rattle.cluster_defs.specs.Asking.{entries_of, fulls_after}
use Rattle.cluster_defs.specs.declared.ask.Ask.{Ask}
use Rattle.cluster_defs.specs.declared.entry.Entry.{Entry}
use Rattle.cluster_defs.specs.declared.reply.Reply.{Reply}
use Rattle.cluster_defs.specs.declared.reply.Reply.TheVariants.{Refused}
use Rattle.session.specs.Session.{Session, Call, Effect, refuses, updated, effect}
use Rattle.wire_text.specs.declared.command.Command.{Command}
use Rattle.wire_text.specs.declared.command.Command.TheVariants.{Batch, Bye}

-- One line's command hears what the desk replies to its calls. Or the session finds no memory for it; then this says
-- whether it had applied what was queued.
pub data Heard : Type 0 where
  Enough : (replies : List Reply) → Heard
  Short : (has_applied : Bool) → Heard

abbrev pub first_reply : List Reply → Reply
first_reply [] = Refused MEMORY
first_reply (reply ∷ replies) = reply

-- whether a command applies what is queued before it may find no memory
abbrev pub applies_first : Result Command Refusal → Bool
applies_first (Ok Batch) = true
applies_first (Ok _) = false
applies_first (Err _) = false

-- What a command that finds no memory has done before stays, and nothing else changes.
abbrev pub short_session : Session → Result Command Refusal → (has_applied : Bool) → Session
short_session session command true = if applies_first command then updated session else session
short_session session command false = session

-- what a line does that finds its memory, by the command that it is or the refusal of it
abbrev pub enough_effect : Session → Result Command Refusal → (block : List ℕ) → Reply → Effect
enough_effect session (Ok command) block reply = effect session command block reply
enough_effect session (Err refusal) block reply = refuses session refusal

-- what a line does, by what it hears
abbrev pub line_effect : Session → Result Command Refusal → (block : List ℕ) → Heard → Effect
line_effect session command block (Enough replies) = enough_effect session command block (first_reply replies)
line_effect session command block (Short has_applied) = refuses (short_session session command has_applied) MEMORY

abbrev pub is_bye : Command → Bool
is_bye Bye = true
is_bye _ = false

-- whether the line ends the session
abbrev pub ends_session : Result Command Refusal → Bool
ends_session (Ok command) = is_bye command
ends_session (Err refusal) = false

abbrev pub is_last : Result Command Refusal → Heard → Bool
is_last command (Enough replies) = ends_session command
is_last command (Short has_applied) = false

-- what a desk keeps of calls
abbrev pub entries_by : Seat → List Call → List Entry
entries_by seat [] = []
entries_by seat (call ∷ calls) = entries_of seat call.ask call.reply ++ entries_by seat calls

-- and how often it has told of the limit on commands
abbrev pub fulls_by : ℕ → List Call → ℕ
fulls_by fulls [] = fulls
fulls_by fulls (call ∷ calls) = fulls_by (fulls_after fulls call.reply) calls

-- A desk was asked these, one after the other, by what each ask makes of it.
abbrev pub WasAsked : {E : Type 0} → (makes : E → Seat → Ask → Reply → E → Type 0) → Seat → (old : E) → List Call → (new : E) → Type 0
WasAsked makes seat old [] new = new ≡ old
WasAsked {E} makes seat old (call ∷ calls) new = (mid : E) × makes old seat call.ask call.reply mid × WasAsked makes seat mid calls new
