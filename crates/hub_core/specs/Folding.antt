-- A table that is folded of bodies, one after the other.
use Rattle.std.specs.Prelude.{◌≡◌, ◌+◌, ℕ, List, None}
use Rattle.hub_core.specs.Keeping.{AreSpelled, read_all}
use Rattle.hub_core.specs.Mounting.{IsBad, IsBadBehind}
use Rattle.hub_core.specs.declared.fault.HubFault.{HubFault}
use Rattle.hub_core.specs.declared.fault.HubFault.TheVariants.{BadRecord, DiskFailed, NoMemory, NotAJournal, TooFull}
use Rattle.hub_core.specs.declared.taking.Taken.{Taken}
use Rattle.hub_core.specs.declared.taking.Taken.TheVariants as is
use Rattle.model_data.specs.declared.batch.BatchRecord.{BatchRecord}
use Rattle.rec_format.specs.Lawful.{IsLawfulRecord}
use Rattle.rec_format.specs.Records.{record_write}
use Rattle.table_defs.specs.Table.{Table, after, applied, no_rows}
use Rattle.table_defs.specs.Taken.{AreTaken, refusal}

-- it is the table of the records that the bodies spell, each of which is taken
pub record IsFold (bodies : List (List ℕ)) (t : Table) : Type 0 where
  pub spelled : AreSpelled (read_all bodies) bodies
  pub taken : AreTaken (read_all bodies) no_rows
  pub table : t ≡ after (read_all bodies) no_rows

-- one body more
pub record IsOneMore (body : List ℕ) (t next : Table) : Type 0 where
  pub r : BatchRecord
  pub written : body ≡ record_write r
  pub lawful : IsLawfulRecord r
  pub taken : refusal r t ≡ None
  pub table : next ≡ applied r t

abbrev pub IsTaking : Taken → List ℕ → Table → Table → Type 0
IsTaking is.Yes body t next = IsOneMore body t next
IsTaking is.No body t next = IsBad body t
IsTaking is.NoMemory body t next = Unit {0}

-- a fault of the bodies alone
abbrev pub IsFoldFault : HubFault → List (List ℕ) → Type 0
IsFoldFault NoMemory bodies = Unit {0}
IsFoldFault DiskFailed bodies = ⊥
IsFoldFault (NotAJournal head) bodies = ⊥
IsFoldFault (BadRecord k) bodies = (n : ℕ) × (k ≡ n + 1) × IsBadBehind n bodies
IsFoldFault (TooFull sum) bodies = ⊥

-- no fault of the journal below
abbrev pub IsOfBodies : HubFault → Type 0
IsOfBodies NoMemory = Unit {0}
IsOfBodies DiskFailed = ⊥
IsOfBodies (NotAJournal head) = ⊥
IsOfBodies (BadRecord k) = Unit {0}
IsOfBodies (TooFull sum) = Unit {0}
