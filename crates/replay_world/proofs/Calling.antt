-- What a line asks of the hub: nothing, or one thing, which doesn't rest on what it hears.
use Rattle.std.proofs.Common.{◌≡◌, ℕ, Bool, true, false, List, [], cond, Option, None, Some, Result, Ok, Err, refl}
use Rattle.std.specs.Prelude.{ℤ, nat_le}
use Rattle.base_names.specs.declared.refusal.Refusal.{Refusal}
use Rattle.base_names.specs.declared.refusal.Refusal.TheVariants.{NOTAG, SIZE}
use Rattle.cluster_defs.specs.declared.ask.Ask.{Ask}
use Rattle.cluster_defs.specs.declared.ask.Ask.TheVariants as kinds
use Rattle.cluster_defs.specs.declared.reply.Reply.{Reply}
use Rattle.lazy_model.specs.Lazy.{latest}
use Rattle.lp_defs.specs.Text.{reading}
use Rattle.lp_defs.specs.declared.fault.ModelFault.{ModelFault}
use Rattle.model_core.specs.Look.{var_of, row_of, coefficient_at}
use Rattle.model_core.specs.One.{one}
use Rattle.model_core.specs.Parameter.{get_of, set_of}
use Rattle.model_core.specs.declared.change.Change.{Change}
use Rattle.model_data.specs.Size.{size_of}
use Rattle.model_data.specs.declared.limits.TheConstants.{MAX_SIZE}
use Rattle.model_data.specs.declared.model.Model.{Model}
use Rattle.model_data.specs.declared.model.Row.{Row}
use Rattle.model_data.specs.declared.model.Var.{Var}
use Rattle.model_data.specs.declared.params.Params.{Params}
use Rattle.session.specs.Hearing.{enough_effect}
use Rattle.session.specs.Session.{Session, Effect, asks, block_effect, effect, get_effect, has_tag, queue_effect, read_effect, refuses, set_effect, tag_effect, tells, updated, var_tag_effect}
use Rattle.wire_text.specs.Answers.{kind_text, lower_text, number_text, sense_text, upper_text}
use Rattle.wire_text.specs.declared.command.Command.{Command}
use Rattle.wire_text.specs.declared.command.Command.TheVariants.{Read, Queue, Update, GetLb, GetUb, GetObj, GetType, GetRhs, GetSense, GetCoeff, GetVTag, GetNumVars, GetNumConstrs, GetParam, Write, SetParam, Batch, BStatus, Bye}

-- what an effect is by a reply: one without a call, or what is asked and replied
pub data Asks (by : Reply → Effect) : Type 0 where
  alone : (done : Effect) → done.calls ≡ [] → ((reply : Reply) → by reply ≡ done) → Asks by
  once : (session : Session) (ask : Ask) → ((reply : Reply) → by reply ≡ asks session ask reply) → Asks by

-- ---- effects without a call

read_alone : (s : Session) (read : Result Model ModelFault) → (read_effect s read).calls ≡ []
read_alone s (Ok model) = refl
read_alone s (Err fault) = refl

block_alone : (s : Session) (len : Option ℕ) (block : List ℕ) → (block_effect s len block).calls ≡ []
block_alone s None block = refl
block_alone s (Some len) block = read_alone s (reading block)

queue_alone : (s : Session) (change : Change) (next : Result Model Refusal) → (queue_effect s change next).calls ≡ []
queue_alone s change (Ok model) = refl
queue_alone s change (Err refusal) = refl

tells_alone : {A : Type 0} (s : Session) (text : A → List ℕ) (found : Option A) → (tells s text found).calls ≡ []
tells_alone s text None = refl
tells_alone s text (Some x) = refl

tag_alone : (s : Session) (tag : Option (List ℕ)) → (tag_effect s tag).calls ≡ []
tag_alone s None = refl
tag_alone s (Some tag) = refl

var_tag_alone : (s : Session) (found : Option Var) → (var_tag_effect s found).calls ≡ []
var_tag_alone s None = refl
var_tag_alone s (Some v) = tag_alone s v.tag

get_alone : (s : Session) (value : Result ℤ Refusal) → (get_effect s value).calls ≡ []
get_alone s (Ok value) = refl
get_alone s (Err refusal) = refl

set_alone : (s : Session) (params : Result Params Refusal) → (set_effect s params).calls ≡ []
set_alone s (Ok params) = refl
set_alone s (Err refusal) = refl

-- ---- a batch

abbrev batch_by : Session → (tagged small : Bool) → Reply → Effect
batch_by s tagged small reply =
    cond tagged (cond small (asks s (kinds.Create (record { model = s.model.applied; params = s.params })) reply) (refuses s SIZE)) (refuses s NOTAG)

batch_asks : (s : Session) (tagged small : Bool) → Asks (batch_by s tagged small)
batch_asks s false small = alone (refuses s NOTAG) refl (λ reply. refl)
batch_asks s true false = alone (refuses s SIZE) refl (λ reply. refl)
batch_asks s true true = once s (kinds.Create (record { model = s.model.applied; params = s.params })) (λ reply. refl)

-- ---- any line

command_asks : (s : Session) (command : Command) (block : List ℕ) → Asks (effect s command block)
unfolding effect
command_asks s (Read len) block = alone (block_effect s len block) (block_alone s len block) (λ reply. refl)
command_asks s (Queue change) block = alone (queue_effect s change (one (latest s.model) change)) (queue_alone s change (one (latest s.model) change)) (λ reply. refl)
command_asks s Update block = alone _ refl (λ reply. refl)
command_asks s (GetLb name) block = alone _ (tells_alone s (λ (v : Var). lower_text v.lower) (var_of name s.model.applied)) (λ reply. refl)
command_asks s (GetUb name) block = alone _ (tells_alone s (λ (v : Var). upper_text v.upper) (var_of name s.model.applied)) (λ reply. refl)
command_asks s (GetObj name) block = alone _ (tells_alone s (λ (v : Var). number_text v.obj) (var_of name s.model.applied)) (λ reply. refl)
command_asks s (GetType name) block = alone _ (tells_alone s (λ (v : Var). kind_text v.kind) (var_of name s.model.applied)) (λ reply. refl)
command_asks s (GetRhs name) block = alone _ (tells_alone s (λ (r : Row). number_text r.rhs) (row_of name s.model.applied)) (λ reply. refl)
command_asks s (GetSense name) block = alone _ (tells_alone s (λ (r : Row). sense_text r.sense) (row_of name s.model.applied)) (λ reply. refl)
command_asks s (GetCoeff row var) block = alone _ (tells_alone s number_text (coefficient_at row var s.model.applied)) (λ reply. refl)
command_asks s (GetVTag name) block = alone _ (var_tag_alone s (var_of name s.model.applied)) (λ reply. refl)
command_asks s GetNumVars block = alone _ refl (λ reply. refl)
command_asks s GetNumConstrs block = alone _ refl (λ reply. refl)
command_asks s (GetParam name) block = alone _ (get_alone s (get_of name s.params)) (λ reply. refl)
command_asks s Write block = alone _ refl (λ reply. refl)
command_asks s (SetParam name value) block = alone _ (set_alone s (set_of name value s.params)) (λ reply. refl)
command_asks s Batch block = batch_asks (updated s) (has_tag (updated s).model.applied) (nat_le (size_of (updated s).model.applied) MAX_SIZE)
command_asks s (BStatus id) block = once s (kinds.Status id) (λ reply. refl)
command_asks s Bye block = alone _ refl (λ reply. refl)

pub line_asks : (s : Session) (command : Result Command Refusal) (block : List ℕ) → Asks (enough_effect s command block)
line_asks s (Ok command) block = command_asks s command block
line_asks s (Err refusal) block = alone (refuses s refusal) refl (λ reply. refl)
