-- What arming leaves of a disk.
use Rattle.std.specs.Prelude.{ℕ, ◌≡◌, List, Option}
use Rattle.disk_model.specs.Calls.{DiskCall}

-- Nothing that a disk tells changed.
pub record IsUnmoved {D : Type 0} (name : D → ℕ) (seen : D → Option (List ℕ)) (moment : D → ℕ) (left : D → ℕ → List ℕ → Type 0) (calls : D → Option (List DiskCall)) (faults : D → ℕ) (old new : D) : Type 0 where
  pub name_is : name new ≡ name old
  pub seen_is : seen new ≡ seen old
  pub moment_is : moment new ≡ moment old
  pub kept : (t : ℕ) (image : List ℕ) → left new t image → left old t image
  pub keeps : (t : ℕ) (image : List ℕ) → left old t image → left new t image
  pub calls_are : calls new ≡ calls old
  pub faults_are : faults new ≡ faults old
