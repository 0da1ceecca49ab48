-- What one write to a sink took.
use Rattle.std.specs.Prelude.{ℕ, ◌≤◌, ◌<◌, List, [], length, take}
use Rattle.base_io.specs.declared.sink.Took.{Took}
use Rattle.base_io.specs.declared.sink.Took.TheVariants.{Bytes, Failed}

-- the bytes that a write took from the front of the piece
abbrev pub bytes_took : Took → List ℕ → List ℕ
bytes_took (Bytes n) piece = take n piece
bytes_took Failed piece = []

-- no more than the piece has, and at least one byte of a piece that isn't empty
abbrev pub TakesSome : Took → List ℕ → Type 0
TakesSome (Bytes n) piece = (n ≤ length piece) × (0 < length piece → 0 < n)
TakesSome Failed piece = Unit {0}
