-- What a disk's calls do in time: its moments, what a crash at each of them might have left, its list of
-- calls and its count of faults.
use Rattle.std.specs.Prelude.{ℕ, ◌+◌, ◌≤◌, ◌≡◌, List, Option}
use Rattle.base_names.specs.Outside.{Rose}
use Rattle.disk_model.specs.Calls.{DiskCall, HasFailed, AddsCall}

-- One moment more. What a crash at an earlier one might have left is what it was.
pub record Passes (before now : ℕ) (left left' : ℕ → List ℕ → Type 0) : Type 0 where
  pub next : now ≡ before + 1
  pub kept : (moment : ℕ) (image : List ℕ) → moment ≤ before → left' moment image → left moment image
  pub keeps : (moment : ℕ) (image : List ℕ) → moment ≤ before → left moment image → left' moment image

-- What each call of a disk does in time, whatever it answers.
pub record Called {D : Type 0} (name moment : D → ℕ) (left : D → ℕ → List ℕ → Type 0) (calls : D → Option (List DiskCall)) (makes : D → DiskCall → D → Type 0) (faults : D → ℕ) (old new : D) (made : DiskCall) : Type 0 where
  pub same : name new ≡ name old
  pub time : Passes (moment old) (moment new) (left old) (left new)
  pub call : AddsCall (calls old) (calls new) made
  pub change : makes old made new
  pub later : faults old ≤ faults new
  -- the count rises at each failure, and at nothing else
  pub cause : HasFailed made → Rose (faults old) (faults new)
  pub steady : (HasFailed made → ⊥) → faults new ≡ faults old

-- A crash at any moment from old's on, up to new's, would have left what has P, and nothing else.
pub record LeavesOnly {D : Type 0} (moment : D → ℕ) (left : D → ℕ → List ℕ → Type 0) (old new : D) (P : List ℕ → Type 0) : Type 0 where
  pub later : moment old ≤ moment new
  pub kept : (t : ℕ) (image : List ℕ) → t ≤ moment old → left new t image → left old t image
  pub each : (t : ℕ) (image : List ℕ) → moment old ≤ t → t ≤ moment new → left new t image → P image
