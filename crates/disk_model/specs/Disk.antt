-- What one call does to what a read gives, and to what a crash may leave.
use Rattle.std.specs.Prelude.{ℕ, ◌+◌, ◌≤◌, ◌≡◌, max, List, ◌++◌, length, take, drop, Option, None, Some, IfSome, IsSomeAnd}
use Rattle.disk_model.specs.declared.answer.DiskLen.{DiskLen}
use Rattle.disk_model.specs.declared.answer.DiskLen.TheVariants.{Len, Failed}

-- a length that is told is that of what a read gives
abbrev pub IsLength : DiskLen → Option (List ℕ) → Type 0
IsLength (Len n) seen = IfSome seen (λ bytes. n ≡ length bytes)
IsLength Failed seen = Unit {0}

-- this part is what the bytes have from a place on
abbrev pub IsPart : (at : ℕ) (part bytes : List ℕ) → Type 0
IsPart at part bytes = part ≡ take (length part) (drop at bytes)

-- bytes with others written over them from a place on
abbrev pub overwritten : (at : ℕ) (bytes old : List ℕ) → List ℕ
overwritten at bytes old = take at old ++ bytes ++ drop (at + length bytes) old

-- After a write of n bytes at a place that a crash or a failure cut short: any bytes in the range and
-- past the old end, the same elsewhere.
pub record Torn (at n : ℕ) (old new : List ℕ) : Type 0 where
  pub before : take at new ≡ take at old
  pub after : drop (at + n) new ≡ drop (at + n) old
  pub no_shorter : length old ≤ length new
  pub no_longer : length new ≤ max (length old) (at + n)

-- what a read gives after a write that may have failed
abbrev pub TearsSeen : (at n : ℕ) → Option (List ℕ) → Option (List ℕ) → Type 0
TearsSeen at n None new = new ≡ None
TearsSeen at n (Some old) new = IsSomeAnd new (Torn at n old)

-- nothing happened to an image
abbrev pub Same : List ℕ → List ℕ → Type 0
Same old new = new ≡ old

-- each image that a crash may leave now is one of before, after a step
abbrev pub Follows : (List ℕ → List ℕ → Type 0) → (List ℕ → Type 0) → (List ℕ → Type 0) → Type 0
Follows step old new = (image : List ℕ) → new image → (before : List ℕ) × old before × step before image

-- one of these, which such a write was made to and maybe cut short
abbrev pub TornFrom : (at n : ℕ) → (List ℕ → Type 0) → List ℕ → Type 0
TornFrom at n older image = (before : List ℕ) × older before × Torn at n before image

-- a crash leaves this and nothing else
abbrev pub Only : List ℕ → (List ℕ → Type 0) → Type 0
Only bytes left = (image : List ℕ) → left image → image ≡ bytes
