-- What a session keeps, and what a command does.
use Rattle.std.specs.Prelude.{ℕ, Bool, nat_le, List, [], ◌∷◌, ◌++◌, length, ℤ, Option, Some, None, is_some, Result, Ok, Err, if◌then◌else◌}
use Rattle.std.specs.List.{list_any}
use Rattle.base_names.specs.declared.refusal.Refusal.{Refusal}
use Rattle.base_names.specs.declared.refusal.Refusal.TheVariants.{MODEL, NAME, NOTAG, SIZE}
use Rattle.base_names.specs.declared.seat.Seat.{Seat}
use Rattle.model_data.specs.Size.{size_of}
use Rattle.model_data.specs.declared.limits.TheConstants.{MAX_SIZE}
use Rattle.model_data.specs.declared.model.Model.{Model}
use Rattle.model_data.specs.declared.model.Var.{Var}
use Rattle.model_data.specs.declared.params.Params.{Params}
use Rattle.lp_defs.specs.Canonical.{canonical_text}
use Rattle.lp_defs.specs.Text.{reading}
use Rattle.lp_defs.specs.declared.fault.ModelFault.{ModelFault}
use Rattle.model_core.specs.One.{one}
use Rattle.model_core.specs.Look.{var_of, row_of, coefficient_at}
use Rattle.model_core.specs.Parameter.{get_of, set_of}
use Rattle.model_core.specs.declared.change.Change.{Change}
use Rattle.lazy_model.specs.Lazy.{Lazy, latest}
use Rattle.cluster_defs.specs.declared.ask.Ask.{Ask}
use Rattle.cluster_defs.specs.declared.ask.Ask.TheVariants.{Create, Status}
use Rattle.cluster_defs.specs.declared.reply.Reply.{Reply}
use Rattle.wire_text.specs.Answers.{done_text, bye_text, updated_text, number_text, lower_text, upper_text, kind_text, sense_text, tag_text, count_text, whole_text, block_text, reply_text, refusal_line}
use Rattle.wire_text.specs.declared.command.Command.{Command}
use Rattle.wire_text.specs.declared.command.Command.TheVariants.{Read, Queue, Update, GetLb, GetUb, GetObj, GetType, GetRhs, GetSense, GetCoeff, GetVTag, GetNumVars, GetNumConstrs, GetParam, Write, SetParam, Batch, BStatus, Bye}

-- whose session it is, its model with what is queued, and its parameters
pub record Session : Type 0 where
  pub seat : Seat
  pub model : Lazy
  pub params : Params

-- a call of the desk: what was asked, and what was replied
pub record Call : Type 0 where
  pub ask : Ask
  pub reply : Reply

-- what a command is answered, the session after it, and the calls that it made
pub record Effect : Type 0 where
  pub text : List ℕ
  pub session : Session
  pub calls : List Call

-- an answer for which the desk isn't asked
abbrev pub says : Session → (text : List ℕ) → Effect
says session text = record { text = text; session = session; calls = [] }

abbrev pub refuses : Session → Refusal → Effect
refuses session refusal = says session (refusal_line refusal)

-- what the desk replied
abbrev pub asks : Session → Ask → Reply → Effect
asks session ask reply = record { text = reply_text reply; session = session; calls = record { ask = ask; reply = reply } ∷ [] }

-- done, and this is the session's model from now on
abbrev pub takes : Session → Lazy → Effect
takes session model = says (record session { model = model }) done_text

-- what is queued is applied
abbrev pub updated : Session → Session
updated session = record session { model = record { applied = latest session.model; queued = [] } }

-- The model that a block spells takes the session's place, and nothing is queued.
abbrev pub read_effect : Session → Result Model ModelFault → Effect
read_effect session (Err fault) = refuses session (MODEL fault.line fault.column fault.fault)
read_effect session (Ok model) = takes session (record { applied = model; queued = [] })

-- A block is read where its length is in range.
abbrev pub block_effect : Session → (len : Option ℕ) → (block : List ℕ) → Effect
block_effect session None block = refuses session SIZE
block_effect session (Some len) block = read_effect session (reading block)

abbrev pub queue_effect : Session → Change → Result Model Refusal → Effect
queue_effect session change (Err refusal) = refuses session refusal
queue_effect session change (Ok model) = takes session (record session.model { queued = session.model.queued ++ change ∷ [] })

-- what is told of something, where there is something of the name
abbrev pub tells : {A : Type 0} → Session → (text : A → List ℕ) → Option A → Effect
tells session text None = refuses session NAME
tells session text (Some x) = says session (text x)

abbrev pub tag_effect : Session → Option (List ℕ) → Effect
tag_effect session None = refuses session NOTAG
tag_effect session (Some tag) = says session (tag_text tag)

abbrev pub var_tag_effect : Session → Option Var → Effect
var_tag_effect session None = refuses session NAME
var_tag_effect session (Some v) = tag_effect session v.tag

abbrev pub get_effect : Session → Result ℤ Refusal → Effect
get_effect session (Err refusal) = refuses session refusal
get_effect session (Ok value) = says session (whole_text value)

abbrev pub set_effect : Session → Result Params Refusal → Effect
set_effect session (Err refusal) = refuses session refusal
set_effect session (Ok params) = says (record session { params = params }) done_text

abbrev pub has_tag : Model → Bool
has_tag model = list_any (λ v. is_some v.tag) model.vars

-- A model with a tag and of no more than the greatest size is submitted, with the session's parameters.
abbrev pub batch_effect : Session → Reply → Effect
batch_effect session reply =
    if has_tag session.model.applied
    then (if nat_le (size_of session.model.applied) MAX_SIZE
    then asks session (Create (record { model = session.model.applied; params = session.params })) reply
    else refuses session SIZE)
    else refuses session NOTAG

-- What a command with its block does, where the desk replies so if it is asked.
unfoldable pub effect : Session → Command → (block : List ℕ) → Reply → Effect
effect session (Read len) block reply = block_effect session len block
effect session (Queue change) block reply = queue_effect session change (one (latest session.model) change)
effect session Update block reply = says (updated session) (updated_text (length session.model.queued))
effect session (GetLb name) block reply = tells session (λ v. lower_text v.lower) (var_of name session.model.applied)
effect session (GetUb name) block reply = tells session (λ v. upper_text v.upper) (var_of name session.model.applied)
effect session (GetObj name) block reply = tells session (λ v. number_text v.obj) (var_of name session.model.applied)
effect session (GetType name) block reply = tells session (λ v. kind_text v.kind) (var_of name session.model.applied)
effect session (GetRhs name) block reply = tells session (λ r. number_text r.rhs) (row_of name session.model.applied)
effect session (GetSense name) block reply = tells session (λ r. sense_text r.sense) (row_of name session.model.applied)
effect session (GetCoeff row var) block reply = tells session number_text (coefficient_at row var session.model.applied)
effect session (GetVTag name) block reply = var_tag_effect session (var_of name session.model.applied)
effect session GetNumVars block reply = says session (count_text (length session.model.applied.vars))
effect session GetNumConstrs block reply = says session (count_text (length session.model.applied.rows))
effect session (GetParam name) block reply = get_effect session (get_of name session.params)
effect session Write block reply = says session (block_text (canonical_text session.model.applied))
effect session (SetParam name value) block reply = set_effect session (set_of name value session.params)
effect session Batch block reply = batch_effect (updated session) reply
effect session (BStatus id) block reply = asks session (Status id) reply
effect session Bye block reply = says session bye_text
