-- Which limits are lawful, and what every sum of a legal history is bounded by then.
use Rattle.std.specs.Prelude.{◌≡◌, ℕ, ◌+◌, ◌*◌, ◌≤◌, ⊤, Bool, true, false, List, [], ◌∷◌, filter, length, Option, Some, None}
use Rattle.base_names.specs.declared.id.BatchId.{BatchId}
use Rattle.base_names.specs.declared.node.NodeNo.{NodeNo}
use Rattle.base_names.specs.declared.node.Placed.{Placed}
use Rattle.base_names.specs.declared.seat.Seat.{Seat}
use Rattle.model_data.specs.declared.batch.BatchBody.{BatchBody}
use Rattle.model_data.specs.declared.batch.BatchRecord.{BatchRecord}
use Rattle.model_data.specs.declared.batch.BatchRecord.TheVariants as is
use Rattle.model_data.specs.declared.batch.BatchResult.{BatchResult}
use Rattle.model_data.specs.declared.batch.BatchRow.{BatchRow}
use Rattle.table_defs.specs.Names.{Owner}
use Rattle.table_defs.specs.Table.{Mark, Table, greatest}
use Rattle.cluster_defs.specs.Answers.{whole_reply}
use Rattle.cluster_defs.specs.Asks as asks
use Rattle.cluster_defs.specs.Asks.{Ask}
use Rattle.cluster_defs.specs.Charges.{charge}
use Rattle.cluster_defs.specs.Cluster.{Cluster, jobs_given, running, usage_of}
use Rattle.cluster_defs.specs.Deeds.{Asked, Deed}
use Rattle.cluster_defs.specs.Entries.{Entry}
use Rattle.cluster_defs.specs.Refusals.{kept_bytes, most_charges, most_number, need, reserve, reserved}
use Rattle.cluster_defs.specs.Site.{Setup, Site}
use Rattle.cluster_laws.specs.Places.{Every, IsIn}

-- ---- what is lawful

abbrev pub most_commands : ℕ
most_commands = 4294967295

abbrev pub most_journal : ℕ
most_journal = 1000000000000

abbrev pub most_nodes : ℕ
most_nodes = 16

-- the greatest limit of a node
abbrev pub most_limit : ℕ
most_limit = 1000

-- A record's length has 4 bytes.
abbrev pub most_record : ℕ
most_record = 4294967295

-- how often a job may be asked for between two openings
abbrev pub most_jobs : ℕ
most_jobs = 281474976710656

-- So many owners ask no more often than that, since each such command is counted.
abbrev pub most_owners : ℕ
most_owners = 65536

-- The limit on the bytes that an owner keeps needs no bound, since the journal has them all.
pub record IsLawful (s : Setup) : Type 0 where
  pub commands : s.limits.commands ≤ most_commands
  pub journal : s.limits.journal ≤ most_journal
  pub nodes : s.nodes ≤ most_nodes

-- What is to be known of how records are written: a Create takes as many bytes whatever its numbers, and holds its model.
pub record IsWritten (k : Site) : Type 0 where
  pub width : (id : BatchId) (attempt : ℕ) (body : BatchBody) → k.record_bytes (is.Create id attempt body) ≡ k.record_bytes (is.Create record { owner = id.owner; number = 1 } 1 body)
  pub whole : (id : BatchId) (attempt : ℕ) (body : BatchBody) → k.model_bytes body.model ≤ k.record_bytes (is.Create id attempt body)

-- The batch that is asked for can be written as a record.
abbrev pub CanBeWritten : Site → Seat → Ask → Type 0
CanBeWritten k seat (asks.Create body) = k.record_bytes (is.Create record { owner = seat.owner; number = 1 } 1 body) ≤ most_record
CanBeWritten k seat ask = ⊤

abbrev pub IsWritable : Site → Deed → Type 0
IsWritable k (Asked seat ask) = CanBeWritten k seat ask
IsWritable k deed = ⊤

abbrev pub AreWritable : Site → List Entry → Type 0
AreWritable k H = Every (λ (e : Entry). IsWritable k e.deed) H

-- ---- jobs

abbrev pub asks_for_job : Deed → Bool
asks_for_job (Asked seat (asks.Job priority)) = true
asks_for_job deed = false

-- how often a job is asked for, refused or not
abbrev pub jobs_asked : List Entry → ℕ
jobs_asked H = length (filter (λ e. asks_for_job e.deed) H)

-- Whoever asks is one of these owners.
abbrev pub IsAmong : List Owner → Deed → Type 0
IsAmong owners (Asked seat ask) = IsIn seat.owner owners
IsAmong owners deed = ⊤

abbrev pub AreAmong : List Owner → List Entry → Type 0
AreAmong owners H = Every (λ (e : Entry). IsAmong owners e.deed) H

-- ---- numbers

-- what a record gives a batch or an attempt is at most the greatest number
abbrev pub IsSmall : BatchRecord → Type 0
IsSmall (is.Create id attempt body) = (id.number ≤ most_number) × (attempt ≤ most_number)
IsSmall (is.Retry id attempt) = attempt ≤ most_number
IsSmall (is.Next id) = id.number ≤ most_number
IsSmall (is.Abort id attempt) = ⊤
IsSmall (is.Discard id) = ⊤
IsSmall (is.Finish id attempt result) = ⊤
IsSmall (is.Lost items) = ⊤

abbrev pub HasSmall : BatchRow → Type 0
HasSmall row = (row.id.number ≤ most_number) × (row.attempt ≤ most_number)

pub record AreSmall (t : Table) : Type 0 where
  pub rows : Every HasSmall t.rows
  pub marks : Every (λ (mark : Mark). mark.number ≤ most_number) t.marks

-- ---- bytes of rows

abbrev pub result_bytes : Site → BatchRow → Option BatchResult → ℕ
result_bytes k row None = 0
result_bytes k row (Some result) = 5 + k.record_bytes (is.Finish row.id row.attempt result)

-- what a row has in the journal: its Create, and its result
abbrev pub row_bytes : Site → BatchRow → ℕ
row_bytes k row = 5 + k.record_bytes (is.Create record { owner = row.id.owner; number = 1 } 1 row.body) + result_bytes k row row.result

-- ---- every sum

-- what one command is charged with at most
abbrev pub most_charge : ℕ
most_charge = 72057594037927936

abbrev pub most_need : ℕ
most_need = most_journal + 5 + most_record + reserved

-- what all runs on one node comes to at most
abbrev pub most_running : ℕ
most_running = most_jobs + most_journal

abbrev pub most_lines : ℕ
most_lines = 128 * (most_jobs + most_journal)

pub record AreBounded (k : Site) (c : Cluster) : Type 0 where
  -- an owner's counted entries, and what they are charged with; what the next command is charged with
  pub entries : (u : Owner) → (usage_of u c.usage).entries ≤ most_commands
  pub charges : (u : Owner) → (usage_of u c.usage).charges ≤ most_charges + most_charge
  pub charge : (ps : List Placed) (seat : Seat) (ask : Ask) → CanBeWritten k seat ask → charge k seat ask (whole_reply c ps seat ask) ≤ most_charge
  -- the numbers of a seat's jobs, of batches and of attempts
  pub jobs : (seat : Seat) → jobs_given seat c.given ≤ most_commands
  pub numbers : (u : Owner) → greatest u c.table ≤ most_number
  pub attempts : Every HasSmall c.table.rows
  -- the bytes that an owner keeps, the journal's end with its reserve, and what is needed for one more record
  pub kept : (u : Owner) → kept_bytes k u c.table ≤ most_journal
  pub journal : c.journal + reserve c.table ≤ most_journal
  pub needed : (r : BatchRecord) → k.record_bytes r ≤ most_record → need k c.journal c.table r ≤ most_need
  -- what runs on a node, and the lines of any list
  pub running : (node : NodeNo) → running node c ≤ most_running
  pub lines : 128 * (length c.jobs + length c.table.rows) ≤ most_lines

-- these bounds, and one more of what is counted up
abbrev pub all_bounds : List ℕ
all_bounds = (most_commands + 1) ∷ (most_charges + most_charge + most_charge) ∷ (most_number + 1) ∷ (most_journal + most_record) ∷ most_need ∷ (most_running + most_limit) ∷ most_lines ∷ []
