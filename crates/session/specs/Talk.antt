-- What a program that answers its input did to its source and its sink, by its end.
use Rattle.std.specs.Prelude.{ℕ, Bool, true, false, ◌≡◌, ◌⊎◌, List, [], ◌++◌, Option}
use Rattle.base_names.specs.Outside.{Reads, Writes, IsAtEnd}
use Rattle.session.specs.Dialogue.{Told, IsFront}
use Rattle.session.specs.Writing.{Writing, MayFollow, IsNeeded}
use Rattle.session.specs.declared.talking.End.{End}
use Rattle.session.specs.declared.talking.End.TheVariants.{Bye, Closed, ReadFault, WriteFault, TooLong, NoMemory}

-- All was told, whatever follows what was taken. This says whether the input ended the program, and whether it is too
-- long.
pub record Answered {Deed : Type 0} (writing : Writing Deed) (taken : List ℕ) (told : Told Deed) (rest : List ℕ) (over long : Bool) : Type 0 where
  pub whole : told ≡ writing.whole (taken ++ rest)
  pub is_over : writing.is_over (taken ++ rest) ≡ over
  pub is_too_long : writing.is_too_long (taken ++ rest) ≡ long

abbrev pub EndSays : {Deed : Type 0} → End → Writing Deed → (taken : List ℕ) → Told Deed → (left : Option (List ℕ)) → Type 0
EndSays Bye writing taken told left = (rest : List ℕ) → MayFollow left rest → Answered writing taken told rest true false
EndSays Closed writing taken told left = IsAtEnd left × ((rest : List ℕ) → MayFollow left rest → Answered writing taken told rest false false)
EndSays TooLong writing taken told left = (rest : List ℕ) → MayFollow left rest → Answered writing taken told rest false true
EndSays ReadFault writing taken told left = told ≡ writing.so_far taken
EndSays WriteFault writing taken told left = (rest : List ℕ) → MayFollow left rest → IsFront told (writing.whole (taken ++ rest))
EndSays NoMemory writing taken told left = (rest : List ℕ) → MayFollow left rest → IsFront told (writing.whole (taken ++ rest))

-- These bytes were taken from the source behind those that were held before, and this was told, its text on the sink.
pub record Talked {Deed : Type 0} (end : End) (writing : Writing Deed) (held : List ℕ) (told : Told Deed) (left left' contents contents' : Option (List ℕ)) : Type 0 where
  pub taken : List ℕ
  pub read : Reads left left' taken
  pub wrote : Writes contents contents' told.text
  pub needed : (taken ≡ []) ⊎ IsNeeded writing (held ++ taken) told
  pub says : EndSays end writing (held ++ taken) told left'

-- The same of a program that reads its input from the first byte on. It speaks of the bytes that were taken whether or not the source
-- tells what it has left.
pub record Says {Deed : Type 0} (end : End) (writing : Writing Deed) (told : Told Deed) (left left' contents contents' : Option (List ℕ)) : Type 0 where
  pub taken : List ℕ
  pub read : Reads left left' taken
  pub wrote : Writes contents contents' told.text
  pub needed : IsNeeded writing taken told
  pub says : EndSays end writing taken told left'
