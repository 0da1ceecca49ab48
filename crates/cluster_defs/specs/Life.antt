-- The life of a store: openings one after the other, each with its history, and what the journal has of them.
use Rattle.std.specs.Prelude.{◌≡◌, ◌+◌, ℕ, suc, List, [], ◌∷◌, ◌++◌, Option, Some, None, option_to_list, IfSome, if◌then◌else◌}
use Rattle.base_names.specs.declared.refusal.Refusal.TheVariants.{DISK}
use Rattle.model_data.specs.declared.batch.BatchRecord.{BatchRecord}
use Rattle.model_data.specs.declared.batch.BatchRecord.TheVariants as is
use Rattle.table_defs.specs.Table.{Table, applied, row_of}
use Rattle.table_defs.specs.Taken.{refusal}
use Rattle.cluster_defs.specs.Appended.{record_of}
use Rattle.cluster_defs.specs.Cluster.{Cluster}
use Rattle.cluster_defs.specs.Deeds.{Asked, Deed, Disk, Finished, Kept, Left, Took}
use Rattle.cluster_defs.specs.Ends.{end_of}
use Rattle.cluster_defs.specs.Entries as answers
use Rattle.cluster_defs.specs.Entries.{Entry, EntryReply, faults_of}
use Rattle.cluster_defs.specs.Journal.{Becomes, Event, Journal, none_yet, table_behind, was_failed, was_kept, was_not_opened, was_opened}
use Rattle.cluster_defs.specs.Legal.{GivenBack, IsLegal, MayHappen, back_at, cluster_behind, given_back}
use Rattle.cluster_defs.specs.Opened.{opened}
use Rattle.cluster_defs.specs.Refusals.{journal_refusal}
use Rattle.cluster_defs.specs.Replies as tells
use Rattle.cluster_defs.specs.Site.{Site}
use Rattle.cluster_defs.specs.Step.{step, still_open}
use Rattle.cluster_defs.specs.Told.{well}

-- ---- what an entry is to the journal

-- what a deed appends, where it gets so far
abbrev pub deed_record : Cluster → Deed → Option BatchRecord
deed_record c (Asked seat ask) = record_of c.table c.placed seat ask
deed_record c (Took worker id attempt) = None
deed_record c (Finished id attempt result) = if still_open attempt (row_of id c.table) then Some (is.Finish id attempt result) else None
deed_record c (Left id attempt) = None

-- kept, failed, or not appended at all
abbrev pub told_of : EntryReply → BatchRecord → Option Event
told_of (answers.Reply (tells.Refused (DISK before after))) r = Some (was_failed r)
told_of (answers.Reply (tells.Refused refusal)) r = None
told_of (answers.Reply reply) r = Some (was_kept r)
told_of (answers.Finish Kept) r = Some (was_kept r)
told_of (answers.Finish (Disk before after)) r = Some (was_failed r)
told_of reply r = None

abbrev pub event_of : EntryReply → Option BatchRecord → Option Event
event_of reply None = None
event_of reply (Some r) = told_of reply r

abbrev pub event_in : Cluster → Deed → EntryReply → Option Event
event_in c deed reply = event_of reply (deed_record c deed)

-- what an event makes of table and end; its record is taken, and a kept one had room
abbrev pub Tells : Site → Option Event → Cluster → Cluster → Type 0
Tells k None c d = (d.table ≡ c.table) × (d.journal ≡ c.journal)
Tells k (Some (was_kept r)) c d = (refusal r c.table ≡ None) × (journal_refusal k c.journal c.table (Some r) ≡ None) × (d.table ≡ applied r c.table) × (d.journal ≡ c.journal + 5 + k.record_bytes r)
Tells k (Some (was_failed r)) c d = (refusal r c.table ≡ None) × (d.table ≡ c.table) × (d.journal ≡ c.journal)
Tells k (Some was_not_opened) c d = ⊥
Tells k (Some was_opened) c d = ⊥

-- ---- the events of a history, the first one first

abbrev pub events_from : Site → ℕ → Cluster → List GivenBack → List Entry → List Event
events_from k n c N [] = []
events_from k n c N (e ∷ es) = let d = given_back (back_at n N) c in option_to_list (event_in d e.deed e.reply) ++ events_from k (suc n) (step k d e.deed (faults_of e)).next N es

-- ---- openings

pub record Opening : Type 0 where
  pub end : ℕ
  pub faults : ℕ
  pub history : List Entry
  pub returned : List GivenBack
  -- the deed in whose call it was stopped
  pub under_way : Option Deed

-- What is stopped before it is answered leaves its record in doubt at most.
abbrev pub in_doubt : Option Event → Option Event
in_doubt (Some (was_kept r)) = Some (was_failed r)
in_doubt event = None

abbrev pub stopped_in : Site → Cluster → Option Deed → Option Event
stopped_in k c None = None
stopped_in k c (Some deed) = in_doubt (event_in c deed (step k c deed well).reply)

abbrev pub cluster_at : Site → Table → Opening → Cluster
cluster_at k t o = cluster_behind k t o.end o.history o.returned

abbrev pub events_of : Site → Table → Opening → List Event
events_of k t o = events_from k 0 (opened k t o.end) o.returned o.history

-- by these events, one after the other
abbrev pub Brings : List Event → Journal → Journal → Type 0
Brings [] j last = last ≡ j
Brings (event ∷ events) j last = (next : Journal) × Becomes event j next × Brings events next last

-- the later ones put before the earlier ones
abbrev pub onto : List Event → List Event → List Event
onto [] events = events
onto (event ∷ more) events = onto more (event ∷ events)

-- A store from the empty disk on. Its events, the latest first, and its journal. What an opening finds is all that is kept of
-- what was before, or that with the record in doubt; it begins where this ends, and its history is any legal one from the table
-- of this.
pub data Life (k : Site) : List Event → Journal → Type 0 where
  untouched : Life k [] none_yet
  opened_in_vain : {events : List Event} {j : Journal} (next : Journal) → Life k events j → Becomes was_not_opened j next → Life k (was_not_opened ∷ events) next
  lived : {events : List Event} {j : Journal} (first last next : Journal) (o : Opening) → Life k events j → Becomes was_opened j first → o.end ≡ end_of k first.records → IsLegal k (table_behind first) o.end o.faults o.history o.returned
      → IfSome o.under_way (MayHappen k (cluster_at k (table_behind first) o)) → Brings (events_of k (table_behind first) o) first last → Brings (option_to_list (stopped_in k (cluster_at k (table_behind first) o) o.under_way)) last next
      → Life k (onto (option_to_list (stopped_in k (cluster_at k (table_behind first) o) o.under_way)) (onto (events_of k (table_behind first) o) (was_opened ∷ events))) next
