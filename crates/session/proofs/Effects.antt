-- What every effect keeps.
use Rattle.std.proofs.Common.{◌≡◌, ℕ, Bool, true, false, List, [], ◌∷◌, ◌++◌, cond, Option, None, Some, Result, Ok, Err, refl, sym, ap, ◌∙◌, append_assoc}
use Rattle.std.specs.Prelude.{ℤ, nat_le}
use Rattle.base_names.specs.declared.refusal.Refusal.{Refusal}
use Rattle.base_names.specs.declared.seat.Seat.{Seat}
use Rattle.cluster_defs.specs.Asking.{entries_of, fulls_after}
use Rattle.cluster_defs.specs.declared.entry.Entry.{Entry}
use Rattle.cluster_defs.specs.declared.reply.Reply.{Reply}
use Rattle.lp_defs.specs.Text.{reading}
use Rattle.lp_defs.specs.declared.fault.ModelFault.{ModelFault}
use Rattle.model_core.specs.One.{one}
use Rattle.model_core.specs.Look.{var_of, row_of, coefficient_at}
use Rattle.model_core.specs.Parameter.{get_of, set_of}
use Rattle.model_core.specs.declared.change.Change.{Change}
use Rattle.model_data.specs.Size.{size_of}
use Rattle.model_data.specs.declared.limits.TheConstants.{MAX_SIZE}
use Rattle.model_data.specs.declared.model.Model.{Model}
use Rattle.model_data.specs.declared.model.Var.{Var}
use Rattle.model_data.specs.declared.params.Params.{Params}
use Rattle.lazy_model.specs.Lazy.{latest}
use Rattle.session.specs.Hearing.{Heard, Enough, Short, first_reply, applies_first, short_session, line_effect, entries_by, fulls_by}
use Rattle.session.specs.Session.{Session, Call, Effect, updated, read_effect, block_effect, queue_effect, tells, tag_effect, var_tag_effect, get_effect, set_effect, has_tag, batch_effect, effect}
use Rattle.wire_text.specs.Answers.{kind_text, lower_text, number_text, upper_text}
use Rattle.wire_text.specs.declared.command.Command.{Command}
use Rattle.wire_text.specs.declared.command.Command.TheVariants.{Read, Queue, Update, GetLb, GetUb, GetObj, GetType, GetRhs, GetSense, GetCoeff, GetVTag, GetNumVars, GetNumConstrs, GetParam, Write, SetParam, Batch, BStatus, Bye}

-- the seat stays

read-seat : (s : Session) (read : Result Model ModelFault) → (read_effect s read).session.seat ≡ s.seat
read-seat s (Ok model) = refl
read-seat s (Err fault) = refl

block-seat : (s : Session) (len : Option ℕ) (block : List ℕ) → (block_effect s len block).session.seat ≡ s.seat
block-seat s None block = refl
block-seat s (Some len) block = read-seat s (reading block)

queue-seat : (s : Session) (change : Change) (next : Result Model Refusal) → (queue_effect s change next).session.seat ≡ s.seat
queue-seat s change (Ok model) = refl
queue-seat s change (Err refusal) = refl

tells-seat : {A : Type 0} (s : Session) (text : A → List ℕ) (found : Option A) → (tells s text found).session.seat ≡ s.seat
tells-seat s text None = refl
tells-seat s text (Some x) = refl

tag-seat : (s : Session) (tag : Option (List ℕ)) → (tag_effect s tag).session.seat ≡ s.seat
tag-seat s None = refl
tag-seat s (Some tag) = refl

var_tag-seat : (s : Session) (found : Option Var) → (var_tag_effect s found).session.seat ≡ s.seat
var_tag-seat s None = refl
var_tag-seat s (Some v) = tag-seat s v.tag

get-seat : (s : Session) (value : Result ℤ Refusal) → (get_effect s value).session.seat ≡ s.seat
get-seat s (Ok value) = refl
get-seat s (Err refusal) = refl

set-seat : (s : Session) (params : Result Params Refusal) → (set_effect s params).session.seat ≡ s.seat
set-seat s (Ok params) = refl
set-seat s (Err refusal) = refl

choice : (s : Session) (test : Bool) (a b : Effect) → a.session.seat ≡ s.seat → b.session.seat ≡ s.seat → (cond test a b).session.seat ≡ s.seat
choice s true a b at_a at_b = at_a
choice s false a b at_a at_b = at_b

batch-seat : (s : Session) (reply : Reply) → (batch_effect s reply).session.seat ≡ s.seat
batch-seat s reply =
    choice s (has_tag s.model.applied) _ _ (choice s (nat_le (size_of s.model.applied) MAX_SIZE) _ _ refl refl) refl

effect-seat : (s : Session) (command : Command) (block : List ℕ) (reply : Reply) → (effect s command block reply).session.seat ≡ s.seat
unfolding effect
effect-seat s (Read len) block reply = block-seat s len block
effect-seat s (Queue change) block reply = queue-seat s change (one (latest s.model) change)
effect-seat s Update block reply = refl
effect-seat s (GetLb name) block reply = tells-seat s (λ (v : Var). lower_text v.lower) (var_of name s.model.applied)
effect-seat s (GetUb name) block reply = tells-seat s (λ (v : Var). upper_text v.upper) (var_of name s.model.applied)
effect-seat s (GetObj name) block reply = tells-seat s (λ (v : Var). number_text v.obj) (var_of name s.model.applied)
effect-seat s (GetType name) block reply = tells-seat s (λ (v : Var). kind_text v.kind) (var_of name s.model.applied)
effect-seat s (GetRhs name) block reply = tells-seat s _ (row_of name s.model.applied)
effect-seat s (GetSense name) block reply = tells-seat s _ (row_of name s.model.applied)
effect-seat s (GetCoeff row var) block reply = tells-seat s number_text (coefficient_at row var s.model.applied)
effect-seat s (GetVTag name) block reply = var_tag-seat s (var_of name s.model.applied)
effect-seat s GetNumVars block reply = refl
effect-seat s GetNumConstrs block reply = refl
effect-seat s (GetParam name) block reply = get-seat s (get_of name s.params)
effect-seat s Write block reply = refl
effect-seat s (SetParam name value) block reply = set-seat s (set_of name value s.params)
effect-seat s Batch block reply = batch-seat (updated s) reply
effect-seat s (BStatus id) block reply = refl
effect-seat s Bye block reply = refl

short-seat : (s : Session) (command : Result Command Refusal) (has_applied : Bool) → (short_session s command has_applied).seat ≡ s.seat
short-seat s command false = refl
short-seat s command true = short_cases (applies_first command) s where
  short_cases : (test : Bool) (s : Session) → (cond test (updated s) s).seat ≡ s.seat
  short_cases true s = refl
  short_cases false s = refl

pub line-seat : (s : Session) (command : Result Command Refusal) (block : List ℕ) (heard : Heard) → (line_effect s command block heard).session.seat ≡ s.seat
line-seat s (Ok command) block (Enough replies) = effect-seat s command block (first_reply replies)
line-seat s (Err refusal) block (Enough replies) = refl
line-seat s (Ok command) block (Short has_applied) = short-seat s (Ok command) has_applied
line-seat s (Err refusal) block (Short has_applied) = short-seat s (Err refusal) has_applied

-- the calls of some lines, and of more of them

pub entries_by-append : (seat : Seat) (xs ys : List Call) → entries_by seat (xs ++ ys) ≡ entries_by seat xs ++ entries_by seat ys
entries_by-append seat [] ys = refl
entries_by-append seat (x ∷ xs) ys =
    ap (λ (l : List Entry). entries_of seat x.ask x.reply ++ l) (entries_by-append seat xs ys)
    ∙ sym (append_assoc (entries_of seat x.ask x.reply) (entries_by seat xs) (entries_by seat ys))

pub fulls_by-append : (fulls : ℕ) (xs ys : List Call) → fulls_by fulls (xs ++ ys) ≡ fulls_by (fulls_by fulls xs) ys
fulls_by-append fulls [] ys = refl
fulls_by-append fulls (x ∷ xs) ys = fulls_by-append (fulls_after fulls x.reply) xs ys
