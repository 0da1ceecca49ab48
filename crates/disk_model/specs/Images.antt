-- Which images a crash leaves of a file in memory: each write since the last sync may be torn.
use Rattle.std.specs.Prelude.{ℕ, zero, suc, ◌+◌, ◌≡◌, ◌⊎◌, ◌&&◌, nat_le, nat_lt, Bool, List, [], ◌∷◌, if◌then◌else◌}
use Rattle.std.specs.List.{list_any}
use Rattle.disk_model.specs.Disk.{Torn}
use Rattle.disk_model.specs.declared.image.Image.{Image}
use Rattle.disk_model.specs.declared.image.Image.TheVariants.{Old, New, Fill}

-- What is stored: what a read gives, what it gave at the last sync, and the place and the length of each write since, the earliest first.
pub record Stored : Type 0 where
  pub bytes : List ℕ
  pub synced : List ℕ
  pub written : List (ℕ × ℕ)

-- a file without writes since its sync
abbrev pub settled : List ℕ → Stored
settled bytes = record { bytes = bytes; synced = bytes; written = [] }

-- The writes were torn, one after the other.
abbrev pub IsTornBy : (written : List (ℕ × ℕ)) → List ℕ → List ℕ → Type 0
IsTornBy [] old image = image ≡ old
IsTornBy (write ∷ written) old image = (mid : List ℕ) × Torn write.0 write.1 old mid × IsTornBy written mid image

-- What a crash may leave. What a read gives is among it.
abbrev pub IsImage : Stored → List ℕ → Type 0
IsImage s image = (image ≡ s.bytes) ⊎ IsTornBy s.written s.synced image

-- What a crash at a moment might have left, by what was stored before each call, and what is stored now.
abbrev pub left_at : (past : List Stored) → (now : Stored) → (moment : ℕ) → List ℕ → Type 0
left_at [] now zero image = IsImage now image
left_at [] now (suc moment) image = ⊥
left_at (before ∷ past) now zero image = IsImage before image
left_at (before ∷ past) now (suc moment) image = left_at past now moment image

-- ---- what a stop leaves

-- one of the writes reached this place
abbrev pub is_written : List (ℕ × ℕ) → ℕ → Bool
is_written written place = list_any (λ write. nat_le write.0 place && nat_lt place (write.0 + write.1)) written

-- a byte in each place that was written, from a place on
abbrev pub filled_from : (place : ℕ) → (ℕ → Bool) → (byte : ℕ) → List ℕ → List ℕ
filled_from place here byte [] = []
filled_from place here byte (old ∷ bytes) = (if here place then byte else old) ∷ filled_from (place + 1) here byte bytes

-- nothing of what was written since the last sync, all of it, or a byte in each place of it
abbrev pub stop_image : Image → Stored → List ℕ
stop_image Old s = s.synced
stop_image New s = s.bytes
stop_image (Fill byte) s = filled_from 0 (is_written s.written) byte s.bytes
