-- What a buffer is seen as, and what one read into it does.
use Rattle.std.specs.Prelude.{ℕ, ◌≡◌, ◌≤◌, List, [], ◌++◌, length, Result, Ok, Err}
use Rattle.base_io.specs.declared.limits.TheConstants.{READ_LIMIT}
use Rattle.base_names.specs.declared.memory.NoMemory.{NoMemory}
use Rattle.base_names.specs.Outside.{Reads, IsAtEnd}
use Rattle.std.specs.Prelude.{Option}
use Rattle.base_io.specs.declared.source.Got.{Got}
use Rattle.base_io.specs.declared.source.Got.TheVariants.{Bytes, Failed}

pub record Buffered : Type 0 where
  -- the bytes that were read and not skipped yet
  pub held : List ℕ
  -- how many bytes may come behind them
  pub room : ℕ

-- one read gives no more than the limit
abbrev pub IsShort : Got → Type 0
IsShort (Bytes n) = n ≤ READ_LIMIT
IsShort Failed = Unit {0}

-- one read, by its answer: what came is held behind what was held
abbrev pub Fills : Result Got NoMemory → (held held' : List ℕ) (left left' : Option (List ℕ)) → Type 0
Fills (Ok (Bytes n)) held held' left left' =
    (moved : List ℕ) × Reads left left' moved × (held' ≡ held ++ moved) × (length moved ≡ n) × (n ≤ READ_LIMIT) × (n ≡ 0 → IsAtEnd left')
Fills (Ok Failed) held held' left left' = Reads left left' [] × (held' ≡ held)
Fills (Err _) held held' left left' = Reads left left' [] × (held' ≡ held)
