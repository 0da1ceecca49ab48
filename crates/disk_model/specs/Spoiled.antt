-- What a crash may leave of a file, place by place: between two syncs each written range and all past the synced end may come to
-- hold any bytes, other bytes stay, and the length lies between the synced one and the greatest since.
use Rattle.std.specs.Prelude.{ℕ, ◌+◌, ◌≤◌, ◌<◌, ◌≡◌, max, false, List, [], ◌∷◌, length, get_or}
use Rattle.disk_model.specs.Images.{is_written}

-- the greatest length since, by the places and lengths of the writes
abbrev pub greatest : ℕ → List (ℕ × ℕ) → ℕ
greatest len [] = len
greatest len (write ∷ written) = greatest (max len (write.0 + write.1)) written

-- each write begins at most at the end of the file
abbrev pub AreInside : ℕ → List (ℕ × ℕ) → Type 0
AreInside len [] = Unit {0}
AreInside len (write ∷ written) = (write.0 ≤ len) × AreInside (max len (write.0 + write.1)) written

pub record IsSpoiled (synced : List ℕ) (written : List (ℕ × ℕ)) (image : List ℕ) : Type 0 where
  pub no_shorter : length synced ≤ length image
  pub no_longer : length image ≤ greatest (length synced) written
  pub kept : (place : ℕ) → place < length synced → is_written written place ≡ false → get_or image place 0 ≡ get_or synced place 0
