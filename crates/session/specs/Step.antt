-- What answering a line does, to a buffer, to a desk and on a sink.
use Rattle.std.specs.Prelude.{ℕ, Bool, true, false, ◌≡◌, ◌⊎◌, List, [], ◌++◌, OnOk, IfOk, Option, Result}
use Rattle.base_names.specs.Outside.{Writes}
use Rattle.base_names.specs.Prefix.{IsPrefix}
use Rattle.base_names.specs.declared.memory.NoMemory.{NoMemory}
use Rattle.base_names.specs.declared.refusal.Refusal.{Refusal}
use Rattle.base_names.specs.declared.refusal.Refusal.TheVariants.{MEMORY}
use Rattle.cluster_defs.specs.declared.entry.Entry.{Entry}
use Rattle.cluster_defs.specs.declared.reply.Reply.{Reply}
use Rattle.session.specs.Hearing.{Heard, line_effect, is_last, entries_by, fulls_by}
use Rattle.session.specs.Session.{Session, Call, Effect, refuses, updated, batch_effect}
use Rattle.session.specs.declared.step.Next.{Next}
use Rattle.session.specs.declared.step.Next.TheVariants.{More, Bye, WriteFault, NoMemory as NoRoom}
use Rattle.wire_text.specs.declared.command.Command.{Command}

-- The effect's text stands in the buffer and this is the session after it, unless the buffer finds no memory. The desk
-- isn't asked.
pub record Does {A : Type 0} (result : Result A NoMemory) (done : Effect) (new : Session) (text : List ℕ) : Type 0 where
  pub does : OnOk result ((text ≡ done.text) × (new ≡ done.session))
  pub alone : done.calls ≡ []

-- the same, or there is no memory for it
abbrev pub MayDo : {A : Type 0} → Result A NoMemory → Effect → (old new : Session) (text : List ℕ) → Type 0
MayDo result done old new text = Does result done new text ⊎ Does result (refuses old MEMORY) new text

-- the same, where the desk may be asked, as is said of its calls
pub record Acts {A : Type 0} (result : Result A NoMemory) (done : Effect) (old new : Session) (text : List ℕ) (mine mine' : List Entry) (fulls fulls' : ℕ) (was_asked : List Call → Type 0) : Type 0 where
  pub does : OnOk result ((text ≡ done.text) × (new ≡ done.session))
  pub mine_is : mine' ≡ mine ++ entries_by old.seat done.calls
  pub fulls_is : fulls' ≡ fulls_by fulls done.calls
  pub asked : was_asked done.calls

-- what is queued was applied, and then the model was submitted, or there was no memory for that
abbrev pub Submits : {A : Type 0} → Result A NoMemory → (old new : Session) (text : List ℕ) (mine mine' : List Entry) (fulls fulls' : ℕ) → (List Call → Type 0) → Type 0
Submits result old new text mine mine' fulls fulls' was_asked =
    (reply : Reply) × (Acts result (batch_effect (updated old) reply) old new text mine mine' fulls fulls' was_asked
    ⊎ Acts result (refuses (updated old) MEMORY) old new text mine mine' fulls fulls' was_asked)

-- What a line did, by the command that it is or the refusal of it: what it heard, and what it did by that.
pub record Answers {A : Type 0} (result : Result A NoMemory) (command : Result Command Refusal) (block : List ℕ) (old new : Session) (text : List ℕ) (mine mine' : List Entry) (fulls fulls' : ℕ) (was_asked : List Call → Type 0) (last : Bool) : Type 0 where
  pub heard : Heard
  pub acts : Acts result (line_effect old command block heard) old new text mine mine' fulls fulls' was_asked
  pub last_is : is_last command heard ≡ last

-- The same of a whole line, with the answer whether it was the last.
pub record AnswersLine (result : Result Bool NoMemory) (command : Result Command Refusal) (block : List ℕ) (old new : Session) (text : List ℕ) (mine mine' : List Entry) (fulls fulls' : ℕ) (was_asked : List Call → Type 0) : Type 0 where
  pub heard : Heard
  pub acts : Acts result (line_effect old command block heard) old new text mine mine' fulls fulls' was_asked
  pub last_is : IfOk result (λ last. last ≡ is_last command heard)

-- the effect of a line on a sink, by what comes after it
abbrev pub StepSays : Next → Effect → (over : Bool) (new : Session) (contents contents' : Option (List ℕ)) → Type 0
StepSays More done over new contents contents' = Writes contents contents' done.text × (new ≡ done.session) × (over ≡ false)
StepSays Bye done over new contents contents' = Writes contents contents' done.text × (over ≡ true)
StepSays WriteFault done over new contents contents' = (front : List ℕ) × IsPrefix front done.text × Writes contents contents' front
StepSays NoRoom done over new contents contents' = contents' ≡ contents

-- What a line did on a desk and on a sink.
pub record Steps (next : Next) (command : Result Command Refusal) (block : List ℕ) (old new : Session) (mine mine' : List Entry) (fulls fulls' : ℕ) (was_asked : List Call → Type 0) (contents contents' : Option (List ℕ)) : Type 0 where
  pub heard : Heard
  pub says : StepSays next (line_effect old command block heard) (is_last command heard) new contents contents'
  pub mine_is : mine' ≡ mine ++ entries_by old.seat (line_effect old command block heard).calls
  pub fulls_is : fulls' ≡ fulls_by fulls (line_effect old command block heard).calls
  pub asked : was_asked (line_effect old command block heard).calls
