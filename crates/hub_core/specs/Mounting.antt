-- What an opening finds, and why there is none.
use Rattle.std.specs.Prelude.{◌≡◌, ◌≢◌, ◌≤◌, ◌<◌, ◌+◌, ◌-◌, ◌^◌, min, ℕ, List, [], length, take, get_or, Option, None, Some, IfSome}
use Rattle.base_names.specs.Outside.{Rose}
use Rattle.disk_model.specs.Calls.{DiskCall}
use Rattle.disk_model.specs.Moments.{LeavesOnly}
use Rattle.hub_core.specs.Keeping.{AreSpelled, Recovers, space_of}
use Rattle.hub_core.specs.Standing.{IsStanding}
use Rattle.hub_core.specs.State.{journal_of, state_of}
use Rattle.hub_core.specs.declared.fault.HubFault.{HubFault}
use Rattle.hub_core.specs.declared.fault.HubFault.TheVariants.{BadRecord, DiskFailed, NoMemory, NotAJournal, TooFull}
use Rattle.hub_core.specs.declared.hub.Hub.{Hub}
use Rattle.hub_core.specs.declared.mounting.NoHub.{NoHub}
use Rattle.hub_core.specs.declared.setup.Setup.{Setup}
use Rattle.journal.specs.Mounting.{HasHeader, RanForFile, WhileMounting}
use Rattle.journal.specs.Plans.{mount_plan}
use Rattle.journal.specs.Records.{header, records}
use Rattle.journal.specs.declared.fault.MountFault.{MountFault}
use Rattle.journal.specs.declared.fault.MountFault.TheVariants as mounts
use Rattle.model_data.specs.declared.batch.BatchRecord.{BatchRecord}
use Rattle.rec_format.specs.Lawful.{IsLawfulRecord}
use Rattle.rec_format.specs.Records.{record_write}
use Rattle.table_defs.specs.Table.{Table, after, no_rows}
use Rattle.table_defs.specs.Taken.{AreTaken, refusal}

-- No record that is lawful and that the table takes is spelled so.
abbrev pub IsBad : List ℕ → Table → Type 0
IsBad body t = (r : BatchRecord) → IsLawfulRecord r → body ≡ record_write r → refusal r t ≢ None

-- Records of which the first n bodies are the spellings are taken, and the body behind them is bad.
pub record IsBadBehind (n : ℕ) (bodies : List (List ℕ)) : Type 0 where
  pub rs : List BatchRecord
  pub there : n < length bodies
  pub spelled : AreSpelled rs (take n bodies)
  pub taken : AreTaken rs no_rows
  pub bad : IsBad (get_or bodies n []) (after rs no_rows)

-- what the end of these records and their reserve come to, at most the end of the type
abbrev pub sum_of : List BatchRecord → ℕ
sum_of rs = min (space_of rs) (2 ^ 64 - 1)

-- The bodies are those of records that are taken, with an end and a reserve that pass the limit.
pub record IsTooFull (limit sum : ℕ) (bodies : List (List ℕ)) : Type 0 where
  pub rs : List BatchRecord
  pub spelled : AreSpelled rs bodies
  pub taken : AreTaken rs no_rows
  pub sum_is : sum ≡ sum_of rs
  pub passes : limit < sum

-- what each fault says of the bodies of a file, where they were looked at
abbrev pub IsBodiesFault : ℕ → HubFault → List (List ℕ) → Type 0
IsBodiesFault limit NoMemory bodies = Unit {0}
IsBodiesFault limit DiskFailed bodies = Unit {0}
IsBodiesFault limit (NotAJournal head) bodies = Unit {0}
IsBodiesFault limit (BadRecord k) bodies = (n : ℕ) × (k ≡ n + 1) × IsBadBehind n bodies
IsBodiesFault limit (TooFull sum) bodies = IsTooFull limit sum bodies

-- what each fault says of the file
abbrev pub IsFileFault : ℕ → HubFault → List ℕ → Type 0
IsFileFault limit NoMemory file = Unit {0}
IsFileFault limit DiskFailed file = Unit {0}
IsFileFault limit (NotAJournal head) file = (8 < length file) × (take 8 file ≡ head) × (head ≢ header)
IsFileFault limit (BadRecord k) file = HasHeader file × IsBodiesFault limit (BadRecord k) (records file)
IsFileFault limit (TooFull sum) file = HasHeader file × IsBodiesFault limit (TooFull sum) (records file)

-- the fault of the journal, where it is one
abbrev pub mount_fault : HubFault → Option MountFault
mount_fault NoMemory = Some mounts.NoMemory
mount_fault DiskFailed = Some mounts.DiskFailed
mount_fault (NotAJournal head) = Some (mounts.NotAJournal head)
mount_fault (BadRecord k) = None
mount_fault (TooFull sum) = None

-- A hub was opened: it holds what the file recovers to, nothing is in doubt, and nobody has asked yet.
pub record Mounted {D : Type 0} (name : D → ℕ) (seen : D → Option (List ℕ)) (moment : D → ℕ) (left : D → ℕ → List ℕ → Type 0) (calls : D → Option (List DiskCall)) (makes : D → DiskCall → D → Type 0) (faults : D → ℕ) (disk : D) (setup : Setup) (h : Hub D) : Type 0 where
  pub stands : IsStanding moment left faults h
  pub setup_is : h.setup ≡ setup
  pub sure : (state_of h).doubt ≡ None
  pub start : (state_of h).start ≡ (state_of h).bodies
  pub fresh : ((state_of h).history ≡ []) × ((state_of h).store.usage ≡ [])
  pub begun : h.begun ≡ faults disk
  pub file : IfSome (seen disk) (λ file. HasHeader file × Recovers (journal_of (state_of h)).records file)
  pub any_moment : LeavesOnly moment left disk h.journal.disk (WhileMounting (left disk (moment disk)))
  pub ran : RanForFile seen calls makes mount_plan None disk h.journal.disk
  pub steady : faults h.journal.disk ≡ faults disk
  pub same : name h.journal.disk ≡ name disk

-- There is none.
pub record NotMounted {D : Type 0} (name : D → ℕ) (seen : D → Option (List ℕ)) (moment : D → ℕ) (left : D → ℕ → List ℕ → Type 0) (calls : D → Option (List DiskCall)) (makes : D → DiskCall → D → Type 0) (faults : D → ℕ) (disk : D) (setup : Setup) (refused : NoHub D) : Type 0 where
  pub file : IfSome (seen disk) (IsFileFault setup.limits.journal refused.fault)
  pub any_moment : LeavesOnly moment left disk refused.disk (WhileMounting (left disk (moment disk)))
  pub ran : RanForFile seen calls makes mount_plan (mount_fault refused.fault) disk refused.disk
  pub later : faults disk ≤ faults refused.disk
  pub failed : refused.fault ≡ DiskFailed → Rose (faults disk) (faults refused.disk)
  pub steady : (refused.fault ≡ DiskFailed → ⊥) → faults refused.disk ≡ faults disk
  pub same : name refused.disk ≡ name disk
