-- A hub over a disk in memory: what it is asked, and how it is opened. Each is a function of what stands on the disk and of what
-- is armed on it.
use Rattle.std.specs.Prelude.{ℕ, ◌&&◌, List, [], Option, Some, None, is_none, if◌then◌else◌}
use Rattle.base_names.specs.declared.refusal.Refusal.TheVariants.{MEMORY}
use Rattle.base_names.specs.declared.seat.Seat.{Seat}
use Rattle.model_data.specs.declared.batch.BatchBody.{BatchBody}
use Rattle.model_data.specs.declared.batch.BatchRecord.{BatchRecord}
use Rattle.model_data.specs.declared.batch.BatchResult.{BatchResult}
use Rattle.rec_format.specs.Records.{record_write}
use Rattle.disk_model.specs.Memory.{DiskState}
use Rattle.journal.specs.Plans.{mount_plan}
use Rattle.journal.specs.Records.{end_of, records}
use Rattle.table_defs.specs.Table.{Table, after, no_rows}
use Rattle.cluster_defs.specs.Appended.{record_of}
use Rattle.cluster_defs.specs.Asks.{asked_today}
use Rattle.cluster_defs.specs.Refusals.{commands_refusal}
use Rattle.cluster_defs.specs.Replies as tells
use Rattle.cluster_defs.specs.Site.{Site}
use Rattle.cluster_defs.specs.Store.{Store, Stored, store_refusal, store_step}
use Rattle.cluster_defs.specs.Told.{well}
use Rattle.cluster_defs.specs.declared.ask.Ask.{Ask}
use Rattle.cluster_defs.specs.declared.reply.Reply.{Reply}
use Rattle.cluster_defs.specs.declared.reply.Reply.TheVariants.{Made, Status, Refused}
use Rattle.hub_core.specs.Keeping.{read_all}
use Rattle.hub_core.specs.Sites.{site_of}
use Rattle.hub_core.specs.State.{State}
use Rattle.hub_core.specs.declared.setup.Setup.{Setup}
use Rattle.journal_in_memory.specs.Adding.{Added, added}
use Rattle.journal_in_memory.specs.Running.{ran}

-- what a hub has beside its disk: the table with the owners' counts and the journal's end, and the body in doubt
pub record Hub : Type 0 where
  pub store : Store
  pub doubt : Option (List ℕ)

-- that of a hub
abbrev pub hub_of_state : {D : Type 0} → State D → Hub
hub_of_state s = record { store = s.store; doubt = s.doubt }

-- ---- what it is asked

-- the record that is added, where nothing is refused before the disk
abbrev pub record_for : Site → Store → Seat → Ask → Option BatchRecord
record_for k s seat today =
    let ask = asked_today today in
    if is_none (commands_refusal k s.usage [] seat ask) && is_none (store_refusal k s seat ask well) then record_of s.table [] seat ask else None

abbrev pub added_for : Option BatchRecord → Hub → DiskState → Added
added_for None hub s = record { disk = s; doubt = hub.doubt }
added_for (Some r) hub s = added hub.doubt hub.store.journal (record_write r) s

-- the reply as a session hears it; the others answer none of today's asks
abbrev pub heard_today : tells.Reply → Reply
heard_today (tells.Made id) = Made id
heard_today (tells.Status id status) = Status id status
heard_today (tells.Refused refusal) = Refused refusal
heard_today _ = Refused MEMORY

-- the reply, and the hub and its disk behind it
pub record Asked : Type 0 where
  pub reply : Reply
  pub hub : Hub
  pub disk : DiskState

abbrev pub told : Stored → Added → Asked
told o a = record { reply = heard_today o.reply; hub = record { store = o.next; doubt = a.doubt }; disk = a.disk }

-- One step of the store, where the disk's counts of faults say whether its record was added.
abbrev pub asked_at : Site → Hub → Seat → Ask → DiskState → Asked
asked_at k hub seat ask s =
    let a = added_for (record_for k hub.store seat ask) hub s in
    told (store_step k hub.store seat ask record { before = s.faults; after = a.disk.faults }) a

-- What batches come to isn't looked at.
module _ (plain : BatchBody → BatchResult) where
  abbrev pub asked : Setup → Hub → Seat → Ask → DiskState → Asked
  asked setup hub seat ask s = asked_at (site_of plain setup) hub seat ask s

-- ---- how it is opened

-- It has no body in doubt, and counts its owners anew.
abbrev pub hub_behind : Table → (end : ℕ) → Hub
hub_behind t end = record { store = record { table = t; usage = []; journal = end }; doubt = None }

-- the hub that a file tells, by the records that its bodies spell
abbrev pub hub_in : (file : List ℕ) → Hub
hub_in file = hub_behind (after (read_all (records file)) no_rows) (end_of file)

-- the disk behind an opening, and the hub, where there is one
pub record Opened : Type 0 where
  pub disk : DiskState
  pub hub : Option Hub

-- There is one exactly where each call of the mounting is made: what a script leaves on its disk is always its journal.
abbrev pub opened : DiskState → Opened
opened s =
    let r = ran (mount_plan s.stored.bytes) s in
    record { disk = r.disk; hub = if r.all then Some (hub_in s.stored.bytes) else None }
