-- A session on a disk, by what the file held when it was opened.
use Rattle.std.specs.Prelude.{ℕ, ◌≡◌, ◌≤◌, List, [], Option, IfSome}
use Rattle.base_names.specs.declared.seat.Role.{Role}
use Rattle.base_names.specs.declared.seat.Seat.{Seat}
use Rattle.model_data.specs.declared.batch.BatchBody.{BatchBody}
use Rattle.model_data.specs.declared.batch.BatchResult.{BatchResult}
use Rattle.cluster_defs.specs.Ends.{end_of}
use Rattle.cluster_defs.specs.Journal.{Journal, table_behind}
use Rattle.cluster_defs.specs.Site.{Site}
use Rattle.cluster_defs.specs.Store.{Store}
use Rattle.cluster_defs.specs.declared.entry.Entry.{Entry}
use Rattle.desk.specs.Desks.{entries_in}
use Rattle.hub_core.specs.Keeping.{Recovers}
use Rattle.hub_core.specs.Mounting.{IsFileFault}
use Rattle.hub_core.specs.Noting.{Noted, AreStored, faults_behind}
use Rattle.hub_core.specs.Sites.{site_of}
use Rattle.hub_core.specs.declared.fault.HubFault.{HubFault}
use Rattle.hub_core.specs.declared.setup.Setup.{Setup}
use Rattle.journal.specs.Mounting.{HasHeader}

-- what a read of the disk gave at first, where it told that, and the disk's counts of faults then and at the end
pub record Disked : Type 0 where
  pub seen : Option (List ℕ)
  pub before : ℕ
  pub after : ℕ

-- an owner's only seat
abbrev pub seat_of : (owner : List ℕ) → Role → Seat
seat_of owner role = record { number = 1; owner = owner; role = role }

-- one node for two jobs, and the usual limits
abbrev pub session_setup : Setup
session_setup = record { nodes = 1; limit = 2; hard = 0; limits = record { commands = 65536; bytes = 8388608; journal = 1000000000 } }

-- what batches come to isn't looked at
abbrev pub session_site : (plain : BatchBody → BatchResult) → Site
session_site plain = site_of plain session_setup

-- as a file is opened: its records' table, and nobody has asked yet
abbrev pub first_store : Site → Journal → Store
first_store k j = record { table = table_behind j; usage = []; journal = end_of k j.records }

-- The desk's entries are steps of a store from what the file held, one after the other. The disk failed in those that say so, and
-- its counts follow one another from the first count to the last.
pub record AreFromFile (disk : Disked) (entries : List Entry) : Type 0 where
  pub found : Journal
  pub file : IfSome disk.seen (λ file. HasHeader file × Recovers found.records file)
  pub history : List Noted
  pub entries_are : entries_in history ≡ entries
  pub legal : (plain : BatchBody → BatchResult) → AreStored (session_site plain) disk.before (first_store (session_site plain) found) history
  pub counted : faults_behind disk.before history ≤ disk.after

-- The file is no journal's, for this reason.
abbrev pub IsRefusedFor : HubFault → Disked → Type 0
IsRefusedFor fault disk = IfSome disk.seen (IsFileFault session_setup.limits.journal fault)
