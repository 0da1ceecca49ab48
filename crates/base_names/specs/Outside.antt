-- The words in which the traits of the outside say what a call did.
use Rattle.std.specs.Prelude.{ℕ, ◌+◌, ◌-◌, ◌^◌, ◌≤◌, ◌≡◌, List, [], ◌++◌, Option, IfSome, min}
use Rattle.std.specs.Option.{option_map}

-- A count with one more, which stays at the end of its type.
abbrev pub one_more : ℕ → ℕ
one_more count = min (count + 1) (2 ^ 64 - 1)

-- A count of faults rose, or it stands at the end of its type, where it can't rise.
abbrev pub Rose : ℕ → ℕ → Type 0
Rose before now = one_more before ≤ now

-- These bytes were read: where a source tells what it has left, it had these and then what is left
-- now.
abbrev pub Reads : Option (List ℕ) → Option (List ℕ) → List ℕ → Type 0
Reads old new bytes = old ≡ option_map (λ left. bytes ++ left) new

-- These bytes were written: where a sink tells what it has, it has what it had and then these.
abbrev pub Writes : Option (List ℕ) → Option (List ℕ) → List ℕ → Type 0
Writes old new bytes = new ≡ option_map (λ contents. contents ++ bytes) old

-- The source is at its end: where it tells what it has left, that is nothing.
abbrev pub IsAtEnd : Option (List ℕ) → Type 0
IsAtEnd left = IfSome left (λ rest. rest ≡ [])
