-- What a call that reads from the front of bytes answers.
use Rattle.std.specs.Prelude.{◌≡◌, ℕ, List}
use Rattle.std.specs.Prelude.{Option, Some, None, Result, Ok, Err}
use Rattle.base_names.specs.declared.memory.OrMemory.{OrMemory}
use Rattle.base_names.specs.declared.memory.OrMemory.TheVariants.{Fault, NoMemory}
use Rattle.rec_format.specs.Format.{Format}

-- what was read is the value that was taken, or there was none at the front; want of memory tells nothing
abbrev pub Took : {A S : Type 0} → Option (A × List ℕ) → Result A (OrMemory S) → List ℕ → Type 0
Took read (Ok x) new = read ≡ Some (x, new)
Took read (Err (Fault _)) new = read ≡ None
Took read (Err NoMemory) new = Unit {0}

-- the same of what is seen of a value, as the bytes of a slice
abbrev pub TookSeen : {A B S : Type 0} → (B → A) → Option (A × List ℕ) → Result B (OrMemory S) → List ℕ → Type 0
TookSeen seen read (Ok x) new = read ≡ Some (seen x, new)
TookSeen seen read (Err (Fault _)) new = read ≡ None
TookSeen seen read (Err NoMemory) new = Unit {0}

-- by the format, from these bytes
abbrev pub Takes : {A S : Type 0} → Format A → List ℕ → Result A (OrMemory S) → List ℕ → Type 0
Takes f old taken new = Took (f.read old) taken new

-- what all the bytes spell is told
abbrev pub IsTold : {A S : Type 0} → Option A → Result A (OrMemory S) → Type 0
IsTold spelled (Ok x) = spelled ≡ Some x
IsTold spelled (Err (Fault _)) = spelled ≡ None
IsTold spelled (Err NoMemory) = Unit {0}
