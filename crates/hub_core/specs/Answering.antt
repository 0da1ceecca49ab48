-- What an ask does to a hub and its disk.
use Rattle.std.specs.Prelude.{◌≡◌, ℕ, ⊤, ◌||◌, nat_le, true, false, List, [], ◌∷◌, ◌++◌, Bool, Option, None, Some}
use Rattle.base_names.specs.declared.refusal.Refusal.{Refusal}
use Rattle.base_names.specs.declared.refusal.Refusal.TheVariants.{BATCH, DISK}
use Rattle.base_names.specs.declared.id.BatchId.{BatchId}
use Rattle.base_names.specs.declared.seat.Seat.{Seat}
use Rattle.cluster_defs.specs.Appended.{next_id, record_of}
use Rattle.cluster_defs.specs.Asking.{Answers, is_memory}
use Rattle.cluster_defs.specs.Asks as asks
use Rattle.cluster_defs.specs.Asks.{asked_today}
use Rattle.cluster_defs.specs.Charges.{counted}
use Rattle.cluster_defs.specs.Cluster.{usage_of}
use Rattle.cluster_defs.specs.Refusals.{bytes_refusal, first_of, journal_refusal, most_charges, numbers_refusal, seen_row}
use Rattle.cluster_defs.specs.Entries as answers
use Rattle.cluster_defs.specs.Journal.{Event, Follows, Journal}
use Rattle.cluster_defs.specs.Life.{event_of}
use Rattle.cluster_defs.specs.Replies.{told_today}
use Rattle.cluster_defs.specs.Site.{Site}
use Rattle.cluster_defs.specs.Store.{Store, store_step}
use Rattle.cluster_defs.specs.declared.ask.Ask.{Ask}
use Rattle.cluster_defs.specs.declared.ask.Ask.TheVariants as cases
use Rattle.cluster_defs.specs.declared.entry.Entry.{Entry}
use Rattle.cluster_defs.specs.declared.reply.Reply.{Reply}
use Rattle.cluster_defs.specs.declared.reply.Reply.TheVariants.{Made, Refused, Status}
use Rattle.disk_model.specs.Calls.{DiskCall}
use Rattle.disk_model.specs.Moments.{LeavesOnly}
use Rattle.hub_core.specs.Keeping.{WhileKeeping}
use Rattle.hub_core.specs.Noting.{faults_in, noted_of}
use Rattle.hub_core.specs.Sites.{site_of}
use Rattle.hub_core.specs.State.{State, journal_of}
use Rattle.hub_core.specs.declared.setup.Counts.{Counts}
use Rattle.journal.specs.Plans.{FailedAdding, RanOn, append_plan}
use Rattle.model_data.specs.declared.batch.BatchBody.{BatchBody}
use Rattle.model_data.specs.declared.batch.BatchRecord.{BatchRecord}
use Rattle.model_data.specs.declared.batch.BatchRecord.TheVariants as is
use Rattle.model_data.specs.declared.batch.BatchResult.{BatchResult}
use Rattle.model_data.specs.declared.batch.BatchRow.{BatchRow}
use Rattle.rec_format.specs.Records.{record_len, record_write}
use Rattle.table_defs.specs.Names.{Owner}
use Rattle.table_defs.specs.Table.{Table, applied}

-- the record of what is asked, where it has one
abbrev pub asked_record : {D : Type 0} → State D → Seat → Ask → Option BatchRecord
asked_record s seat ask = record_of s.store.table [] seat (asked_today ask)

-- Which calls of the disk were made for an answer: an append's for a record that is kept, those up to the one that failed for DISK,
-- and none for any other.
abbrev pub RecordRan : {D : Type 0} → (calls : D → Option (List DiskCall)) → (makes : D → DiskCall → D → Type 0) → (old new : State D) → Option BatchRecord → Type 0
RecordRan calls makes old new None = new.disk ≡ old.disk
RecordRan calls makes old new (Some r) = RanOn calls makes (append_plan old.doubt old.store.journal (record_write r)) old.disk new.disk true

abbrev pub RecordFailed : {D : Type 0} → (calls : D → Option (List DiskCall)) → (makes : D → DiskCall → D → Type 0) → (old new : State D) → Option BatchRecord → Type 0
RecordFailed calls makes old new None = ⊥
RecordFailed calls makes old new (Some r) = FailedAdding calls makes old.doubt old.store.journal (record_write r) new.doubt old.disk new.disk

abbrev pub RanFor : {D : Type 0} → (calls : D → Option (List DiskCall)) → (makes : D → DiskCall → D → Type 0) → (old new : State D) → Option BatchRecord → Reply → Type 0
RanFor calls makes old new r (Made id) = RecordRan calls makes old new r
RanFor calls makes old new r (Status id status) = new.disk ≡ old.disk
RanFor calls makes old new r (Refused (DISK before after)) = RecordFailed calls makes old new r
RanFor calls makes old new r (Refused _) = new.disk ≡ old.disk

-- What is in doubt behind an answer: nothing where a record was kept, and what was before where none was appended. For DISK the calls
-- that were made tell it.
abbrev pub DoubtFor : (old new : Option (List ℕ)) → Reply → Type 0
DoubtFor old new (Made id) = new ≡ None
DoubtFor old new (Status id status) = new ≡ old
DoubtFor old new (Refused (DISK before after)) = ⊤
DoubtFor old new (Refused _) = new ≡ old

-- what an answer is to the journal: a record that was kept or that failed, or nothing
abbrev pub asked_event : {D : Type 0} → State D → Seat → Ask → Reply → Option Event
asked_event s seat ask reply = event_of (answers.Reply (told_today reply)) (asked_record s seat ask)

abbrev pub FollowsBy : Option Event → Journal → Journal → Type 0
FollowsBy None j next = next ≡ j
FollowsBy (Some event) j next = Follows event j next

-- the disk's counts of faults before a call and behind it
abbrev pub counts_around : {D : Type 0} → (faults : D → ℕ) → (old new : State D) → Counts
counts_around faults old new = record { before = faults old.disk; after = faults new.disk }

-- The call is one step of the store, whatever plain results are.
abbrev pub IsStoreStep : {D : Type 0} → (faults : D → ℕ) → (old new : State D) → Seat → Ask → Reply → Type 0
IsStoreStep faults old new seat ask reply = (plain : BatchBody → BatchResult)
    → store_step (site_of plain old.setup) old.store seat ask (faults_in (counts_around faults old new)) ≡ record { next = new.store; reply = told_today reply }

-- An ask was answered: by a step, or for want of memory by nothing at all. An entry was added for it, unless it was not looked at.
-- Each image on the way holds the journal before, with its record in doubt or with that of the ask.
pub record Asked {D : Type 0} (name : D → ℕ) (moment : D → ℕ) (left : D → ℕ → List ℕ → Type 0) (calls : D → Option (List DiskCall)) (makes : D → DiskCall → D → Type 0) (faults : D → ℕ) (old new : State D) (seat : Seat) (ask : Ask) (reply : Reply) : Type 0 where
  pub kind : Answers reply ask
  pub step : is_memory reply ≡ false → IsStoreStep faults old new seat ask reply
  pub memory : is_memory reply ≡ true → new ≡ old
  pub noted : new.history ≡ old.history ++ noted_of seat ask reply (counts_around faults old new)
  pub any_moment : LeavesOnly moment left old.disk new.disk (WhileKeeping old.setup.limits.journal (journal_of old) (asked_record old seat ask))
  pub ran : RanFor calls makes old new (asked_record old seat ask) reply
  pub doubt : DoubtFor old.doubt new.doubt reply
  pub follows : FollowsBy (asked_event old seat ask reply) (journal_of old) (journal_of new)
  pub same : name new.disk ≡ name old.disk
  pub setup : new.setup ≡ old.setup
  pub start : (new.start ≡ old.start) × (new.begun ≡ old.begun)

-- ---- the parts of a step

-- Whether an owner may ask no more.
abbrev pub at_limit : {D : Type 0} → State D → Owner → Bool
at_limit s owner = let u = usage_of owner s.store.usage in nat_le s.setup.limits.commands u.entries || nat_le most_charges u.charges

-- with one entry more, which is counted and charged
abbrev pub noted_in : {D : Type 0} → State D → Entry → Counts → ℕ → State D
noted_in s entry counts bytes = record s {
  store = record { table = s.store.table; usage = counted entry.seat.owner false bytes s.store.usage; journal = s.store.journal };
  history = s.history ++ (entry, counts) ∷ [];
}

-- with one entry more, of a batch that is in the table then
abbrev pub admitted_in : {D : Type 0} → State D → Seat → BatchId → BatchBody → Counts → ℕ → State D
admitted_in s seat id body counts bytes = record s {
  store = record { table = applied (is.Create id 1 body) s.store.table; usage = counted seat.owner false bytes s.store.usage; journal = s.store.journal };
  history = s.history ++ (record { seat = seat; ask = cases.Create body; reply = Made id }, counts) ∷ [];
}

-- what is told of a batch's row
abbrev pub told_row : BatchId → Option BatchRow → Reply
told_row id None = Refused BATCH
told_row id (Some row) = Status id row.status

abbrev pub told_status : Table → Seat → BatchId → Reply
told_status t seat id = told_row id (seen_row seat id t)

-- why a batch is not created, but for the disk
abbrev pub creating_refusal : Site → Store → Seat → BatchBody → Option Refusal
creating_refusal k s seat body = first_of (
    numbers_refusal s.table seat (asks.Create body)
    ∷ bytes_refusal k s.table seat (asks.Create body)
    ∷ journal_refusal k s.journal s.table (record_of s.table [] seat (asks.Create body))
    ∷ [])

-- The record creates the owner's next batch, which is not refused, and its bytes are those that it is charged with.
abbrev pub IsCreation : {D : Type 0} → State D → Seat → ℕ → BatchRecord → Type 0
IsCreation s seat bytes (is.Create id attempt body) = (id ≡ next_id seat.owner s.store.table) × (attempt ≡ 1) × (bytes ≡ record_len (is.Create record { owner = seat.owner; number = 1 } 1 body))
    × ((plain : BatchBody → BatchResult) → creating_refusal (site_of plain s.setup) s.store seat body ≡ None)
IsCreation s seat bytes (is.Abort id attempt) = ⊥
IsCreation s seat bytes (is.Discard id) = ⊥
IsCreation s seat bytes (is.Retry id attempt) = ⊥
IsCreation s seat bytes (is.Finish id attempt result) = ⊥
IsCreation s seat bytes (is.Lost items) = ⊥
IsCreation s seat bytes (is.Next id) = ⊥
