-- What a command did, by what its own function says.
use Rattle.std.proofs.Common.{◌≡◌, ◌<◌, ◌≤◌, arith, Option, None, Some, ℕ, Bool, true, false, cond, nat_le, List, [], ◌∷◌, ◌++◌, ◌⊎◌, inl, inr, Result, Ok, Err, refl, sym, ap, subst, ◌∙◌}
use Rattle.std.specs.Prelude.{OnOk, IfOk, unwrap_or}
use Rattle.std.specs.Result.{IsOk}
use Rattle.std.proofs.lemmas.Bool.{false≢true, leb-true}
use Rattle.std.proofs.lemmas.List.{append-nil}
use Rattle.base_names.specs.declared.memory.NoMemory.{NoMemory}
use Rattle.base_names.specs.declared.refusal.Refusal.{Refusal}
use Rattle.base_names.specs.declared.refusal.Refusal.TheVariants.{MEMORY, NOTAG, SIZE}
use Rattle.cluster_defs.specs.declared.ask.Ask.TheVariants.{Create, Status}
use Rattle.cluster_defs.specs.declared.entry.Entry.{Entry}
use Rattle.cluster_defs.specs.declared.reply.Reply.{Reply}
use Rattle.cluster_defs.specs.declared.reply.Reply.TheVariants.{Refused}
use Rattle.base_names.specs.declared.id.BatchId.{BatchId}
use Rattle.model_core.specs.declared.change.Change.{Change}
use Rattle.base_names.specs.declared.seat.Seat.{Seat}
use Rattle.lazy_model.specs.Lazy.{Lazy, latest}
use Rattle.model_data.specs.Size.{size_of}
use Rattle.model_data.specs.declared.limits.TheConstants.{MAX_SIZE}
use Rattle.model_data.specs.declared.model.Model.{Model}
use Rattle.model_data.specs.declared.params.Params.{Params}
use Rattle.session.specs.Hearing.{Enough, Short, entries_by, fulls_by, is_bye}
use Rattle.session.specs.Session.{Session, Call, Effect, says, refuses, asks, updated, queue_effect, has_tag, batch_effect, effect}
use Rattle.session.specs.Step.{Does, MayDo, Acts, Submits, Answers, AnswersLine}
use Rattle.wire_text.specs.Answers.{done_text, refusal_line}
use Rattle.wire_text.specs.Commands.{block_len_of}
use Rattle.wire_text.specs.Lawful.{IsLawfulCommand}
use Rattle.wire_text.specs.declared.limits.TheConstants.{BLOCK_LIMIT}
use Rattle.wire_text.specs.declared.command.Command.{Command}
use Rattle.wire_text.specs.declared.command.Command.TheVariants.{Read, Batch, BStatus}

-- a line behind nothing
on_nothing : {A : Type 0} (result : Result A NoMemory) (before line text : List ℕ) (session : Session) → before ≡ [] → OnOk result (text ≡ before ++ line) → OnOk result ((text ≡ line) × (session ≡ session))
on_nothing (Ok a) before line text session none is = (is ∙ ap (λ (l : List ℕ). l ++ line) none, refl)
on_nothing (Err e) before line text session none is = tt

pub does_say : {A : Type 0} (result : Result A NoMemory) (before line text : List ℕ) (session : Session) → before ≡ [] → OnOk result (text ≡ before ++ line) → Does result (says session line) session text
does_say result before line text session none is = record { does = on_nothing result before line text session none is; alone = refl }

-- the desk isn't asked
acts_alone : {A : Type 0} (result : Result A NoMemory) (done : Effect) (old new : Session) (text : List ℕ) (mine : List Entry) (fulls : ℕ) (was_asked : List Call → Type 0) → was_asked [] → Does result done new text → Acts result done old new text mine mine fulls fulls was_asked
acts_alone result done old new text mine fulls was_asked none d = record {
  does = d.does;
  mine_is = sym (ap (λ (calls : List Call). mine ++ entries_by old.seat calls) d.alone ∙ append-nil mine);
  fulls_is = sym (ap (λ (calls : List Call). fulls_by fulls calls) d.alone);
  asked = subst (λ (calls : List Call). was_asked calls) (sym d.alone) none;
}

module _ {A : Type 0} (result : Result A NoMemory) (command : Command) (block : List ℕ) (old new : Session) (text : List ℕ) (mine : List Entry) (fulls : ℕ) (was_asked : List Call → Type 0) (none : was_asked []) where
  pub answers_alone : Does result (effect old command block (Refused MEMORY)) new text → Answers result (Ok command) block old new text mine mine fulls fulls was_asked (is_bye command)
  answers_alone d = record {
    heard = Enough [];
    acts = acts_alone result (effect old command block (Refused MEMORY)) old new text mine fulls was_asked none d;
    last_is = refl;
  }

  pub answers_maybe : is_bye command ≡ false → MayDo result (effect old command block (Refused MEMORY)) old new text → Answers result (Ok command) block old new text mine mine fulls fulls was_asked (is_bye command)
  answers_maybe goes (inl d) = answers_alone d
  answers_maybe goes (inr d) = record {
    heard = Short false;
    acts = acts_alone result (refuses old MEMORY) old new text mine fulls was_asked none d;
    last_is = sym goes;
  }

pub answers_batch : {A : Type 0} (result : Result A NoMemory) (block : List ℕ) (old new : Session) (text : List ℕ) (mine mine' : List Entry) (fulls fulls' : ℕ) (was_asked : List Call → Type 0) → Submits result old new text mine mine' fulls fulls' was_asked → Answers result (Ok Batch) block old new text mine mine' fulls fulls' was_asked false
unfolding effect
answers_batch result block old new text mine mine' fulls fulls' was_asked (reply, inl acts) = record { heard = Enough (reply ∷ []); acts = acts; last_is = refl }
answers_batch result block old new text mine mine' fulls fulls' was_asked (reply, inr acts) = record { heard = Short true; acts = acts; last_is = refl }

pub answers_status : {A : Type 0} (result : Result A NoMemory) (id : BatchId) (block : List ℕ) (old new : Session) (text : List ℕ) (mine mine' : List Entry) (fulls fulls' : ℕ) (was_asked : List Call → Type 0) (reply : Reply) → Acts result (asks old (Status id) reply) old new text mine mine' fulls fulls' was_asked → Answers result (Ok (BStatus id)) block old new text mine mine' fulls fulls' was_asked false
unfolding effect
answers_status result id block old new text mine mine' fulls fulls' was_asked reply acts = record { heard = Enough (reply ∷ []); acts = acts; last_is = refl }

-- a change that was refused
pub queue_refused : {A : Type 0} (result : Result A NoMemory) (old new : Session) (change : Change) (next : Result Model Refusal) (refusal : Refusal) (before text : List ℕ) → new ≡ old → before ≡ [] → OnOk result (text ≡ before ++ refusal_line refusal) → (refusal ≡ MEMORY) ⊎ (next ≡ Err refusal) → MayDo result (queue_effect old change next) old new text
queue_refused result old new change next refusal before text same none is (inl memory) =
    rw same (inr (does_say result before (refusal_line MEMORY) text old none (rw memory at is)))
queue_refused result old new change next refusal before text same none is (inr refused) =
    rw (same, refused) (inl (does_say result before (refusal_line refusal) text old none is))

-- a batch that isn't submitted

pub batch_without_tag : (session : Session) (reply : Reply) → has_tag session.model.applied ≡ false → batch_effect session reply ≡ refuses session NOTAG
batch_without_tag session reply is = ap (λ (b : Bool). cond b (cond (nat_le (size_of session.model.applied) MAX_SIZE) (asks session (Create (record { model = session.model.applied; params = session.params })) reply) (refuses session SIZE)) (refuses session NOTAG)) is

pub batch_too_large : (session : Session) (reply : Reply) → has_tag session.model.applied ≡ true → nat_le (size_of session.model.applied) MAX_SIZE ≡ false → batch_effect session reply ≡ refuses session SIZE
batch_too_large session reply tagged large =
    let create = asks session (Create (record { model = session.model.applied; params = session.params })) reply in
    ap (λ (b : Bool). cond b (cond (nat_le (size_of session.model.applied) MAX_SIZE) create (refuses session SIZE)) (refuses session NOTAG)) tagged
    ∙ ap (λ (b : Bool). cond b create (refuses session SIZE)) large

pub updated_is : (seat : Seat) (model model' : Lazy) (params : Params) (old : Session) → (let s : Session = record { seat = seat; model = model; params = params } in s) ≡ old → model' ≡ record { applied = latest model; queued = [] } → (let s : Session = record { seat = seat; model = model'; params = params } in s) ≡ updated old
updated_is seat model model' params old is applied = rw (← is, applied) refl

pub submit_refused : {A : Type 0} (result : Result A NoMemory) (old new : Session) (refusal : Refusal) (before text : List ℕ) (mine : List Entry) (fulls : ℕ) (was_asked : List Call → Type 0) → was_asked [] → new ≡ updated old → before ≡ [] → OnOk result (text ≡ before ++ refusal_line refusal) → Acts result (refuses (updated old) refusal) old new text mine mine fulls fulls was_asked
submit_refused result old new refusal before text mine fulls was_asked quiet same none is =
    rw same (acts_alone result (refuses (updated old) refusal) old (updated old) text mine fulls was_asked quiet (does_say result before (refusal_line refusal) text (updated old) none is))

-- a line that is refused, or for which there is no memory
pub answers_refused : (result : Result Bool NoMemory) (command : Result Command Refusal) (refusal : Refusal) (block : List ℕ) (old : Session) (before text : List ℕ) (mine : List Entry) (fulls : ℕ) (was_asked : List Call → Type 0) → was_asked [] → (refusal ≡ MEMORY) ⊎ (command ≡ Err refusal) → before ≡ [] → OnOk result (text ≡ before ++ refusal_line refusal) → IfOk result (λ last. last ≡ false) → AnswersLine result command block old old text mine mine fulls fulls was_asked
answers_refused result command refusal block old before text mine fulls was_asked quiet (inl memory) none is last = record {
  heard = Short false;
  acts = acts_alone result (refuses old MEMORY) old old text mine fulls was_asked quiet (does_say result before (refusal_line MEMORY) text old none (rw memory at is));
  last_is = last;
}
answers_refused result command refusal block old before text mine fulls was_asked quiet (inr refused) none is last = rw refused (record {
  heard = Enough [];
  acts = acts_alone result (refuses old refusal) old old text mine fulls was_asked quiet (does_say result before (refusal_line refusal) text old none is);
  last_is = last;
})

-- a session whose model stayed as it was
pub same_state : (seat : Seat) (model model' : Lazy) (params : Params) (old : Session) → (let s : Session = record { seat = seat; model = model; params = params } in s) ≡ old → model' ≡ model → (let s : Session = record { seat = seat; model = model'; params = params } in s) ≡ old
same_state seat model model' params old is same = ap (λ (m : Lazy). let s : Session = record { seat = seat; model = m; params = params } in s) same ∙ is

-- a change that was accepted
pub queue_accepted : {A : Type 0} (result : Result A NoMemory) (seat : Seat) (model model' : Lazy) (params : Params) (old : Session) (change : Change) (next : Result Model Refusal) (before text : List ℕ) → (let s : Session = record { seat = seat; model = model; params = params } in s) ≡ old → model' ≡ record model { queued = model.queued ++ change ∷ [] } → before ≡ [] → OnOk result (text ≡ before ++ done_text) → IsOk next → MayDo result (queue_effect old change next) old (let s : Session = record { seat = seat; model = model'; params = params } in s) text
queue_accepted result seat model model' params old change (Err refusal) before text is queued none wrote accepted = absurd (false≢true accepted)
queue_accepted result seat model model' params old change (Ok m) before text is queued none wrote accepted =
    rw (← is, queued) (inl (does_say result before done_text text (record { seat = seat; model = record model { queued = model.queued ++ change ∷ [] }; params = params }) none wrote))

pub too_many : (n : ℕ) → MAX_SIZE < n → nat_le n MAX_SIZE ≡ false
too_many n more = many_cases (nat_le n MAX_SIZE) n more refl where
  many_cases : (t : Bool) (n : ℕ) → MAX_SIZE < n → nat_le n MAX_SIZE ≡ t → nat_le n MAX_SIZE ≡ false
  many_cases true n more is = absurd (omega (arith, leb-true n MAX_SIZE is, more))
  many_cases false n more is = is

-- a block in range is short
pub short_block : (command : Command) (len : Option ℕ) → command ≡ Read len → IsLawfulCommand command → unwrap_or (block_len_of (Ok command)) 0 ≤ BLOCK_LIMIT
short_block command None is lawful = rw is (omega arith)
short_block command (Some k) is lawful = rw is (rw is at lawful)
