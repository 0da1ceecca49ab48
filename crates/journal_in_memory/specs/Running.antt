-- A disk in memory that makes the calls of a plan, one after the other, up to the first that fails. No growth is refused.
use Rattle.std.specs.Prelude.{Bool, true, false, List, [], ◌∷◌, if◌then◌else◌}
use Rattle.disk_model.specs.Images.{Stored, settled}
use Rattle.disk_model.specs.Memory.{DiskState, answered, begun_of, entered, storing, wrote}
use Rattle.disk_model.specs.declared.arming.Begun.{Begun}
use Rattle.disk_model.specs.declared.arming.Begun.TheVariants.{Runs, Fails, Stops}
use Rattle.journal.specs.Plans.{Step, LenStep, ReadStep, WriteStep, SyncStep, done_call, failed_call}

abbrev pub stored_by : Step → Stored → Stored
stored_by (LenStep len) s = s
stored_by (ReadStep at len) s = s
stored_by (WriteStep at bytes) s = wrote at bytes s
stored_by SyncStep s = settled s.bytes

-- Where a stop comes in a write, it counts as written; one in a sync syncs nothing.
abbrev pub stored_at_stop : Step → Stored → Stored
stored_at_stop (LenStep len) s = s
stored_at_stop (ReadStep at len) s = s
stored_at_stop (WriteStep at bytes) s = wrote at bytes s
stored_at_stop SyncStep s = s

-- the disk behind one call, by how it begins
abbrev pub made_by : Begun → Step → DiskState → DiskState
made_by Runs step s = answered (done_call step) (storing (stored_by step) (entered s))
made_by Fails step s = answered (failed_call step) (entered s)
made_by Stops step s = answered (failed_call step) (storing (stored_at_stop step) (entered s))

abbrev pub runs : Begun → Bool
runs Runs = true
runs Fails = false
runs Stops = false

-- the disk behind a plan, and whether all of it was made
pub record Ran : Type 0 where
  pub disk : DiskState
  pub all : Bool

abbrev pub ran : List Step → DiskState → Ran
ran [] s = record { disk = s; all = true }
ran (step ∷ plan) s = if runs (begun_of s) then ran plan (made_by Runs step s) else record { disk = made_by (begun_of s) step s; all = false }
