-- What a session writes for its input: a dialogue, line by line, with what each line hears.
use Rattle.std.specs.Prelude.{ℕ, Bool, List, [], ◌∷◌, Option, Result, if◌then◌else◌}
use Rattle.base_names.specs.declared.refusal.Refusal.{Refusal}
use Rattle.base_names.specs.declared.seat.Seat.{Seat}
use Rattle.model_data.specs.Params.{usual_params}
use Rattle.model_core.specs.Indexed.{empty_model}
use Rattle.session.specs.Beginning.{Beginning}
use Rattle.session.specs.Dialogue.{Going, Over, Said, Dialogue, says_nothing}
use Rattle.session.specs.Hearing.{Heard, Enough, line_effect, is_last}
use Rattle.session.specs.Session.{Session, Call, Effect}
use Rattle.session.specs.Writing.{Writing, writing_by}
use Rattle.wire_text.specs.Commands.{block_len_of, command_of}
use Rattle.wire_text.specs.declared.command.Command.{Command}

-- how long a block a line asks for
abbrev pub wants : List ℕ → Option ℕ
wants line = block_len_of (command_of line)

-- a session, and what its lines to come hear
pub record Hearing : Type 0 where
  pub session : Session
  pub heard : List Heard

abbrev pub first_heard : List Heard → Heard
first_heard [] = Enough []
first_heard (heard ∷ later) = heard

abbrev pub heard_later : List Heard → List Heard
heard_later [] = []
heard_later (heard ∷ later) = later

abbrev pub said_by : Effect → (over : Bool) → List Heard → Said Hearing Call
said_by done over later = record {
  told = record { text = done.text; deeds = done.calls };
  course = if over then Over else Going (record { session = done.session; heard = later });
}

abbrev pub answer_to : Session → Result Command Refusal → (block : List ℕ) → Heard → (later : List Heard) → Said Hearing Call
answer_to session command block heard later = said_by (line_effect session command block heard) (is_last command heard) later

-- A line without its whole block isn't answered.
abbrev pub session_dialogue : Dialogue Hearing Call
session_dialogue = record {
  wants = wants;
  answer = λ hearing line block. answer_to hearing.session (command_of line) block (first_heard hearing.heard) (heard_later hearing.heard);
  cut = λ hearing line part. says_nothing (Going hearing);
}

-- a session of this seat that has read nothing
abbrev pub first_session : Seat → Session
first_session seat = record { seat = seat; model = record { applied = empty_model; queued = [] }; params = usual_params }

-- what a seat's session tells, by what its lines hear
abbrev pub session_writing : Seat → Beginning → List Heard → Writing Call
session_writing seat beginning heard = writing_by session_dialogue beginning (record { session = first_session seat; heard = heard })
