-- What a write and the sync behind it do.
use Rattle.std.specs.Prelude.{ℕ, Bool, true, false, ◌≡◌, List, Option, Some}
use Rattle.disk_model.specs.Disk.{overwritten}
use Rattle.disk_model.specs.declared.answer.DiskDone.{DiskDone}
use Rattle.disk_model.specs.declared.answer.DiskDone.TheVariants.{Done, Failed}

-- what was seen, with these bytes written over it
abbrev pub IsPut : (at : ℕ) (bytes : List ℕ) → Option (List ℕ) → List ℕ → Type 0
IsPut at bytes seen image = (file : List ℕ) × (seen ≡ Some file) × (image ≡ overwritten at bytes file)

abbrev pub is_done : DiskDone → Bool
is_done Done = true
is_done Failed = false
