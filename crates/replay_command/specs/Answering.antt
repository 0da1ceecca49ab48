-- What the answer to one line of a script did.
use Rattle.std.specs.Prelude.{ℕ, ◌≡◌, List, [], ◌∷◌, ◌++◌, Option, None, Result, Ok, Err}
use Rattle.base_names.specs.declared.memory.NoMemory.{NoMemory}
use Rattle.cluster_defs.specs.Journal.{Event, Journal, none_yet}
use Rattle.hub_core.specs.Answering.{FollowsBy}
use Rattle.model_data.specs.declared.batch.BatchBody.{BatchBody}
use Rattle.model_data.specs.declared.batch.BatchResult.{BatchResult}
use Rattle.session.specs.Dialogue.{Going, Said}
use Rattle.table_defs.specs.Table.{Table}
use Rattle.replay_world.specs.Steps.{Memory}
use Rattle.replay_world.specs.Views.{HasJournal, IsWhole, view}
use Rattle.replay_command.specs.Script as script
use Rattle.replay_command.specs.Script.{Deed, Script, Went, refused, table_in}
use Rattle.replay_command.specs.declared.standing.Answer.{Answer}
use Rattle.replay_command.specs.declared.standing.Answer.TheVariants.{Next, Refused}
use Rattle.replay_command.specs.declared.standing.Standing.{Standing}
use Rattle.replay_command.specs.declared.standing.Standing.TheVariants.{Fresh, Behind}

-- where a script stands
abbrev pub standing_of : Standing → script.Standing
standing_of Fresh = script.Fresh
standing_of (Behind lines world) = script.Behind lines (view world)

-- its world is whole, where it has one
abbrev pub IsWholeAt : Standing → Type 0
IsWholeAt Fresh = Unit {0}
IsWholeAt (Behind lines world) = IsWhole world

-- This is the journal where it stands.
abbrev pub HasJournalAt : Journal → Standing → Type 0
HasJournalAt j Fresh = j ≡ none_yet
HasJournalAt j (Behind lines world) = HasJournal j world.machine

-- the table that is open there
abbrev pub table_at : Standing → Option Table
table_at Fresh = None
table_at (Behind lines world) = table_in (view world)

-- what is said to a line, whatever batches come to, and by what its step and those to come find of memory
abbrev pub SaidBy : Type 0
SaidBy = (BatchBody → BatchResult) → List Memory → Said Script Deed

-- It goes on so behind the line of this number, and this text stands behind what the buffer held. What the line was to the journal
-- leads from the one that was there.
pub record GoesOn (line : ℕ) (next : Standing) (said : SaidBy) (had : Journal → Type 0) (out out' : List ℕ) : Type 0 where
  pub whole : IsWholeAt next
  pub behind : script.lines_behind (standing_of next) ≡ line
  pub text : List ℕ
  pub memory : Memory
  pub event : Option Event
  pub is : (plain : BatchBody → BatchResult) (later : List Memory)
      → said plain (memory ∷ later) ≡ record { told = record { text = text; deeds = Went event (table_at next) ∷ [] }; course = Going (record { standing = standing_of next; memory = later }) }
  pub wrote : out' ≡ out ++ text
  pub leads : (j : Journal) → had j → (after : Journal) × FollowsBy event j after × HasJournalAt after next

abbrev pub AnswerSays : Result Answer NoMemory → (line : ℕ) → SaidBy → (had : Journal → Type 0) → (out out' : List ℕ) → Type 0
AnswerSays (Ok (Next next)) line said had out out' = GoesOn line next said had out out'
AnswerSays (Ok (Refused number)) line said had out out' = (plain : BatchBody → BatchResult) (memory : List Memory) → said plain memory ≡ refused number
AnswerSays (Err _) line said had out out' = Unit {0}
