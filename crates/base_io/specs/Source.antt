-- What one read of a source gave.
use Rattle.std.specs.Prelude.{ℕ, ◌≤◌, List, [], length, take}
use Rattle.base_io.specs.declared.source.Got.{Got}
use Rattle.base_io.specs.declared.source.Got.TheVariants.{Bytes, Failed}

-- the bytes that a read put at the front of the buffer
abbrev pub bytes_got : Got → List ℕ → List ℕ
bytes_got (Bytes n) buffer = take n buffer
bytes_got Failed buffer = []

-- no more than the buffer takes
abbrev pub FitsBuffer : Got → List ℕ → Type 0
FitsBuffer (Bytes n) buffer = n ≤ length buffer
FitsBuffer Failed buffer = Unit {0}
