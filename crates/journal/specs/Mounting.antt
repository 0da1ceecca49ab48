-- What a mounting finds and leaves.
use Rattle.std.specs.Prelude.{ℕ, ◌≡◌, ◌≢◌, ◌⊎◌, ◌≤◌, ◌<◌, ◌+◌, true, false, List, [], ◌∷◌, ◌++◌, length, take, drop, Option, None, Some, IfSome}
use Rattle.disk_model.specs.Calls.{DiskCall}
use Rattle.disk_model.specs.Disk.{overwritten}
use Rattle.journal.specs.declared.fault.MountFault.{MountFault}
use Rattle.journal.specs.declared.fault.MountFault.TheVariants.{DiskFailed, NotAJournal, NoMemory}
use Rattle.disk_model.specs.declared.answer.DiskLen.{DiskLen}
use Rattle.disk_model.specs.declared.answer.DiskLen.TheVariants.{Len, Failed}
use Rattle.journal.specs.Plans.{Step, RanOn, RanPart, measure_plan}
use Rattle.journal.specs.Records.{AtGate, bodies_from, records, header, front, opened, end_of, AreShort, IsBegun}

-- a file with this content may be opened
abbrev pub HasHeader : List ℕ → Type 0
HasHeader file = 8 < length file → take 8 file ≡ header

-- NotAJournal carries the first eight bytes of a longer file, which aren't the header.
abbrev pub IsNoJournal : MountFault → List ℕ → Type 0
IsNoJournal (NotAJournal head) file = (8 < length file) × (take 8 file ≡ head) × (head ≢ header)
IsNoJournal DiskFailed file = Unit {0}
IsNoJournal NoMemory file = Unit {0}

-- ---- what it leaves at any moment

-- no closed gate begins these bytes
abbrev pub IsUnclosed : List ℕ → Type 0
IsUnclosed [] = Unit {0}
IsUnclosed (gate ∷ rest) = gate ≢ 0

-- A gate at the end that wasn't closed was written over, and any byte may stand there.
pub record IsMended (file image : List ℕ) : Type 0 where
  pub rest : List ℕ
  pub gate : ℕ
  pub split : file ≡ front (records file) ++ rest
  pub unclosed : IsUnclosed rest
  pub short : AreShort (records file)
  pub mended : image ≡ front (records file) ++ gate ∷ drop 1 rest

-- a new file was begun
abbrev pub IsNew : List ℕ → List ℕ → Type 0
IsNew file image = (length file ≤ 8) × IsBegun [] image

-- what a mounting that is cut short makes of a file: nothing, or a beginning, or another gate at its end
abbrev pub Mends : List ℕ → List ℕ → Type 0
Mends file image = (image ≡ file) ⊎ (IsNew file image ⊎ IsMended file image)

-- an image that a crash might have left at first, or what a mounting made of it
abbrev pub WhileMounting : (List ℕ → Type 0) → List ℕ → Type 0
WhileMounting images image = (first : List ℕ) × images first × Mends first image

-- a file with an open gate at its end
abbrev pub with_open_gate : List ℕ → List ℕ
with_open_gate file = overwritten (end_of file) (1 ∷ []) file

-- ---- which calls it makes

-- what a disk tells, where it tells it
abbrev pub IsTold : Option (List ℕ) → List ℕ → Type 0
IsTold seen file = IfSome seen (λ told. told ≡ file)

-- up to the first failure, or to want of memory
abbrev pub RanUpTo : {D : Type 0} → (calls : D → Option (List DiskCall)) → (makes : D → DiskCall → D → Type 0) → Option MountFault → List Step → (old new : D) → Type 0
RanUpTo calls makes None plan old new = RanOn calls makes plan old new true
RanUpTo calls makes (Some (NotAJournal head)) plan old new = RanOn calls makes plan old new true
RanUpTo calls makes (Some DiskFailed) plan old new = RanOn calls makes plan old new false
RanUpTo calls makes (Some NoMemory) plan old new = RanPart calls makes plan old new

-- The calls are those that a plan names for some file, which is what the disk told, where it did.
abbrev pub RanForFile : {D : Type 0} → (seen : D → Option (List ℕ)) → (calls : D → Option (List DiskCall)) → (makes : D → DiskCall → D → Type 0) → (List ℕ → List Step) → Option MountFault → (old new : D) → Type 0
RanForFile seen calls makes plan fault old new = (file : List ℕ) × IsTold (seen old) file × RanUpTo calls makes fault (plan file) old new

-- it asked for the length, or failed at that or before
abbrev pub RanToLength : {D : Type 0} → (calls : D → Option (List DiskCall)) → (makes : D → DiskCall → D → Type 0) → DiskLen → (old new : D) → Type 0
RanToLength calls makes (Len len) old new = RanOn calls makes (measure_plan len) old new true
RanToLength calls makes Failed old new = (len : ℕ) → RanOn calls makes (measure_plan len) old new false

-- ---- how a file is read

-- where a length was answered, a crash leaves what a read gives
abbrev pub SyncedTo : DiskLen → Option (List ℕ) → (List ℕ → Type 0) → Type 0
SyncedTo (Len len) seen left = (image : List ℕ) → left image → IsTold seen image
SyncedTo Failed seen left = Unit {0}

-- These bytes are records of these bodies, which are all that is read there.
abbrev pub IsEnd : List (List ℕ) → List ℕ → Type 0
IsEnd bodies bytes = (rest : List ℕ) × (bytes ≡ opened bodies ++ rest) × (bodies_from AtGate bytes ≡ bodies) × AreShort bodies

-- A file was read up to its end.
pub record IsScanned (file : List ℕ) (end : ℕ) : Type 0 where
  pub at : end ≡ end_of file
  pub short : AreShort (records file)
  pub rest : List ℕ
  pub split : file ≡ front (records file) ++ rest

-- what a read of a whole file found: none for at most 8 bytes, or its bytes
abbrev pub IsFound : Option (List ℕ) → List ℕ → Type 0
IsFound None file = length file ≤ 8
IsFound (Some bytes) file = (bytes ≡ file) × (8 < length file)

-- a fault before the bytes are looked at
abbrev pub IsReadFault : MountFault → Type 0
IsReadFault (NotAJournal head) = ⊥
IsReadFault DiskFailed = Unit {0}
IsReadFault NoMemory = Unit {0}
