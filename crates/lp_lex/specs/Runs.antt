-- Runs as the code has them.
use Rattle.std.specs.Prelude.{ℕ, ◌+◌, ◌≤◌, ◌≡◌, Bool, IsTrue, List, length, drop, not, ◌&&◌, ◌==◌}
use Rattle.std.specs.List.{list_all, prefix_len}
use Rattle.lp_defs.specs.Kinds.{colon}
use Rattle.lp_defs.specs.Tokens.{Run, is_plain_byte}
use Rattle.lp_lex.specs.declared.runs.Run.{Run as Found}

abbrev pub run_of : Found → Run
run_of found = record { place = found.place; bytes = found.bytes.now }

-- a byte that a token may have, and that is no colon
abbrev pub is_simple_byte : ℕ → Bool
is_simple_byte byte = is_plain_byte byte && not (byte == colon)

abbrev pub IsSimple : List ℕ → Type 0
IsSimple bytes = IsTrue (list_all is_simple_byte bytes)

-- a run that is marked as simple is
abbrev pub IsMarked : Found → Type 0
IsMarked found = IsTrue found.is_simple → IsSimple found.bytes.now

-- the bytes before the place are simple
pub record IsPassed (bytes : List ℕ) (len : ℕ) : Type 0 where
  pub within : len ≤ length bytes
  pub simple : prefix_len is_simple_byte bytes ≡ len + prefix_len is_simple_byte (drop len bytes)
