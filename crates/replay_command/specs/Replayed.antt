-- What a script's run did to its source and its sink, by its end.
use Rattle.std.specs.Prelude.{ℕ, ◌≡◌, List, [], ◌++◌, Option, None, Some}
use Rattle.cluster_defs.specs.Journal.{none_yet}
use Rattle.model_data.specs.declared.batch.BatchBody.{BatchBody}
use Rattle.model_data.specs.declared.batch.BatchResult.{BatchResult}
use Rattle.session.specs.Beginning.{at_first}
use Rattle.session.specs.Dialogue.{Told}
use Rattle.session.specs.Talk.{Says}
use Rattle.session.specs.Writing.{MayFollow}
use Rattle.session.specs.declared.talking.End.{End}
use Rattle.session.specs.declared.talking.End.TheVariants as ends
use Rattle.replay_command.specs.Believed.{AreBelieved}
use Rattle.replay_command.specs.Script.{Deed, refused_line, script_writing}
use Rattle.replay_world.specs.Steps.{Memory}
use Rattle.replay_command.specs.declared.command.ReplayEnd.{ReplayEnd}
use Rattle.replay_command.specs.declared.command.ReplayEnd.TheVariants.{Done, Refused, ReadFault, WriteFault, NoMemory, TooLong}

-- How a dialogue ended that ended so: all was told, or all up to the line that ended it; all before what failed to be read; a front of
-- it; all before what is too long.
abbrev pub end_of : ReplayEnd → End
end_of Done = ends.Closed
end_of (Refused line) = ends.Bye
end_of ReadFault = ends.ReadFault
end_of WriteFault = ends.WriteFault
end_of NoMemory = ends.NoMemory
end_of TooLong = ends.TooLong

-- Which line is refused, where the end tells that.
abbrev pub Refuses : ReplayEnd → Option ℕ → Type 0
Refuses Done line = line ≡ None
Refuses (Refused number) line = line ≡ Some number
Refuses ReadFault line = Unit {0}
Refuses WriteFault line = Unit {0}
Refuses NoMemory line = Unit {0}
Refuses TooLong line = line ≡ None

-- The script's steps found so much memory, and by that it told what its definition says, whatever follows what was taken. Each opening
-- found what may be believed by all that was told before, from a disk on that keeps nothing yet.
pub record Replayed (plain : BatchBody → BatchResult) (end : ReplayEnd) (left left' contents contents' : Option (List ℕ)) : Type 0 where
  pub memory : List Memory
  pub told : Told Deed
  pub says : Says (end_of end) (script_writing plain at_first memory) told left left' contents contents'
  pub refuses : (rest : List ℕ) → MayFollow left' rest → Refuses end (refused_line (script_writing plain at_first memory) (says.taken ++ rest))
  pub believed : AreBelieved [] none_yet told.deeds
