-- What the reading of a whole input took from its source, by its answer.
use Rattle.std.specs.Prelude.{ℕ, ◌≡◌, ◌≤◌, ◌<◌, List, ◌++◌, length, Option, Result, Ok, Err}
use Rattle.base_names.specs.Outside.{IsAtEnd, Reads}
use Rattle.base_names.specs.declared.memory.NoMemory.{NoMemory}
use Rattle.base_io.specs.declared.limits.TheConstants.{READ_LIMIT}
use Rattle.whole_input.specs.declared.whole.Whole.{Whole}
use Rattle.whole_input.specs.declared.whole.Whole.TheVariants.{Read, TooLong, ReadFault}

-- These bytes were taken, and no read was made too early or too much: before the last one no more than is allowed
-- had come.
pub record Takes (limit : ℕ) (left left' : Option (List ℕ)) (taken : List ℕ) : Type 0 where
  pub read : Reads left left' taken
  pub before : List ℕ
  pub last : List ℕ
  pub whole : taken ≡ before ++ last
  pub allowed : length before ≤ limit
  pub short : length last ≤ READ_LIMIT

abbrev pub ReadsWhole : (limit : ℕ) → Result Whole NoMemory → (left left' : Option (List ℕ)) → Type 0
ReadsWhole limit (Ok (Read input)) left left' = Takes limit left left' input × IsAtEnd left' × (length input ≤ limit)
ReadsWhole limit (Ok TooLong) left left' = (taken : List ℕ) × Takes limit left left' taken × (limit < length taken)
ReadsWhole limit (Ok ReadFault) left left' = (taken : List ℕ) × Takes limit left left' taken × (length taken ≤ limit)
ReadsWhole limit (Err _) left left' = (taken : List ℕ) × Takes limit left left' taken
