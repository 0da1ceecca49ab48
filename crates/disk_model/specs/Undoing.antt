-- How a disk in memory keeps what stood there at the last sync: by what each write since then covered.
use Rattle.std.specs.Prelude.{ℕ, ◌+◌, ◌≤◌, ◌<◌, ◌≡◌, List, [], ◌∷◌, ◌++◌, length, map, take, drop}
use Rattle.disk_model.specs.Images.{Stored}
use Rattle.disk_model.specs.declared.undo.Undo.{Undo}

-- the bytes before a write
abbrev pub undone : Undo → List ℕ → List ℕ
undone u bytes = take u.at bytes ++ u.was.items ++ drop (u.at + u.len) bytes

-- the bytes before these writes, the earliest first
abbrev pub synced_by : List Undo → List ℕ → List ℕ
synced_by [] bytes = bytes
synced_by (u ∷ us) bytes = undone u (synced_by us bytes)

-- The write lies in the bytes behind it. Where it covered less than it wrote, it made the file longer, and they end with it.
pub record IsUndo (u : Undo) (bytes : List ℕ) : Type 0 where
  pub inside : u.at + u.len ≤ length bytes
  pub covered : length u.was.items ≤ u.len
  pub longer : length u.was.items < u.len → length bytes ≡ u.at + u.len

abbrev pub AreUndos : List Undo → List ℕ → Type 0
AreUndos [] bytes = Unit {0}
AreUndos (u ∷ us) bytes = IsUndo u (synced_by us bytes) × AreUndos us bytes

abbrev pub range_of : Undo → ℕ × ℕ
range_of u = (u.at, u.len)

-- what they stand for
abbrev pub stored_as : (bytes : List ℕ) → List Undo → Stored
stored_as bytes us = record { bytes = bytes; synced = synced_by us bytes; written = map range_of us }
