-- An ask that was answered, by how it was answered.
use Rattle.std.proofs.Common.{◌≡◌, ◌⊎◌, inl, inr, refl, sym, ◌∙◌, ap, ap₂, subst, arith, ℕ, ◌+◌, ◌*◌, ◌-◌, ◌<◌, ◌≤◌, ◌^◌, Bool, true, false, List, [], ◌∷◌, ◌++◌, length, map, Option, Some, None}
use Rattle.std.specs.Option.{option_map}
use Rattle.std.specs.Prelude.{IfSome, nat_le, option_to_list, ◌||◌}
use Rattle.std.proofs.lemmas.List.{append-nil}
use Rattle.base_names.specs.Outside.{Rose}
use Rattle.base_names.specs.declared.id.BatchId.{BatchId}
use Rattle.base_names.specs.declared.refusal.OwnerLimit.TheVariants.{Bytes, Commands, Numbers}
use Rattle.base_names.specs.declared.refusal.Refusal.{Refusal}
use Rattle.base_names.specs.declared.refusal.Refusal.TheVariants.{BATCH, DISK, JOURNALFULL, MEMORY, OWNERFULL}
use Rattle.base_names.specs.declared.seat.Seat.{Seat}
use Rattle.cluster_defs.specs.Appended.{next_id, record_of}
use Rattle.cluster_defs.specs.Asking.{Answers, is_full, is_memory}
use Rattle.cluster_defs.specs.Asks as asks
use Rattle.cluster_defs.specs.Charges.{counted}
use Rattle.cluster_defs.specs.Cluster.{usage_of}
use Rattle.cluster_defs.specs.Entries as answers
use Rattle.cluster_defs.specs.Journal.{Event, Journal}
use Rattle.cluster_defs.specs.Legal.{IsTold}
use Rattle.cluster_defs.specs.Life.{Brings, event_of, told_of}
use Rattle.cluster_defs.specs.Refusals.{bytes_refusal, is_at_limit, journal_refusal, numbers_refusal, seen_row}
use Rattle.cluster_defs.specs.Replies as tells
use Rattle.cluster_defs.specs.Replies.{told_today}
use Rattle.cluster_defs.specs.Site.{Site}
use Rattle.cluster_defs.specs.Store.{Store, Stored, store_step}
use Rattle.cluster_defs.specs.declared.ask.Ask.{Ask}
use Rattle.cluster_defs.specs.declared.ask.Ask.TheVariants.{Create, Status as status_of}
use Rattle.cluster_defs.specs.declared.entry.Entry.{Entry}
use Rattle.cluster_defs.specs.declared.reply.Reply.{Reply}
use Rattle.cluster_defs.specs.declared.reply.Reply.TheVariants.{Made, Refused, Status}
use Rattle.disk_model.specs.Calls.{DiskCall}
use Rattle.disk_model.specs.Moments.{LeavesOnly}
use Rattle.hub_core.proofs.Sound.{history_more, nothing_done}
use Rattle.hub_core.proofs.Steps.{free_allowed, step_full, step_refused, step_status}
use Rattle.hub_core.specs.Answering.{Asked, DoubtFor, FollowsBy, IsStoreStep, RanFor, asked_record, at_limit, counts_around, creating_refusal, noted_in, told_row, told_status}
use Rattle.hub_core.specs.Keeping.{WhileKeeping}
use Rattle.hub_core.specs.Noting.{Noted, event_at, faults_in, noted_of, says_disk, stored_at}
use Rattle.hub_core.specs.Sites.{site_of}
use Rattle.hub_core.specs.Standing.{IsItsHistory, IsSound, IsStanding}
use Rattle.hub_core.specs.State.{State, journal_of, state_of}
use Rattle.hub_core.specs.declared.hub.Hub.{Hub}
use Rattle.hub_core.specs.declared.setup.Counts.{Counts}
use Rattle.journal.specs.Standing.{Stands}
use Rattle.model_data.specs.declared.batch.BatchBody.{BatchBody}
use Rattle.model_data.specs.declared.batch.BatchRecord.{BatchRecord}
use Rattle.model_data.specs.declared.batch.BatchRecord.TheVariants as batch
use Rattle.model_data.specs.declared.batch.BatchResult.{BatchResult}
use Rattle.model_data.specs.declared.batch.BatchRow.{BatchRow}
use Rattle.rec_format.specs.Records.{record_len}
use Rattle.table_defs.specs.Taken.{or_else, unless}

-- ---- replies that bring nothing to the journal

-- It was looked at, and no call of the disk was made for it.
pub record IsQuiet (reply : Reply) : Type 0 where
  pub memory : is_memory reply ≡ false
  pub full : is_full reply ≡ false
  pub disk : says_disk reply ≡ false

pub quiet_row : (id : BatchId) (found : Option BatchRow) → IsQuiet (told_row id found)
quiet_row id None = record { memory = refl; full = refl; disk = refl }
quiet_row id (Some row) = record { memory = refl; full = refl; disk = refl }

-- a result to fill the place of one that doesn't matter
pub no_result : BatchBody → BatchResult
no_result body = record { outcome = record { status = 0; pivots = 0; nodes = 0; work = 0; point = None; wide = None }; cert = None }

quiet_numbers : (b : Bool) (y z : Option Refusal) (why : Refusal) → (y ≡ Some why → IsQuiet (Refused why)) → (z ≡ Some why → IsQuiet (Refused why)) → or_else (unless b (OWNERFULL Numbers)) (or_else y (or_else z None)) ≡ Some why → IsQuiet (Refused why)
quiet_numbers false y z why of_y of_z is = subst (λ (r : Refusal). IsQuiet (Refused r)) (some_is is) (record { memory = refl; full = refl; disk = refl }) where
  some_is : {r s : Refusal} → Some r ≡ Some s → r ≡ s
  some_is e = grind (arith, e)
quiet_numbers true (Some r) z why of_y of_z is = of_y is
quiet_numbers true None (Some r) why of_y of_z is = of_z is
quiet_numbers true None None why of_y of_z is = absurd (grind (arith, is))

quiet_unless : (b : Bool) (r why : Refusal) → IsQuiet (Refused r) → unless b r ≡ Some why → IsQuiet (Refused why)
quiet_unless true r why quiet is = absurd (grind (arith, is))
quiet_unless false r why quiet is = subst (λ (x : Refusal). IsQuiet (Refused x)) (grind (arith, is)) quiet

pub quiet_refusal : (k : Site) (s : Store) (seat : Seat) (body : BatchBody) (why : Refusal) → creating_refusal k s seat body ≡ Some why → IsQuiet (Refused why)
quiet_refusal k s seat body why is = quiet_numbers _ (bytes_refusal k s.table seat (asks.Create body)) (journal_refusal k s.journal s.table (record_of s.table [] seat (asks.Create body))) why
    (quiet_unless _ _ why (record { memory = refl; full = refl; disk = refl })) (quiet_unless _ _ why (record { memory = refl; full = refl; disk = refl })) is

-- what is told of such a refusal is no event
quiet_told : (why : Refusal) (r : BatchRecord) → says_disk (Refused why) ≡ false → told_of (answers.Reply (tells.Refused why)) r ≡ None
quiet_told (DISK before after) r h = absurd (grind (arith, h))
quiet_told why r h = refl

quiet_ran : {D : Type 0} (calls : D → Option (List DiskCall)) (makes : D → DiskCall → D → Type 0) (old new : State D) (r : Option BatchRecord) (why : Refusal) → says_disk (Refused why) ≡ false → new.disk ≡ old.disk → RanFor calls makes old new r (Refused why)
quiet_ran calls makes old new r (DISK before after) h same = absurd (grind (arith, h))
quiet_ran calls makes old new r why h same = same

row_ran : {D : Type 0} (calls : D → Option (List DiskCall)) (makes : D → DiskCall → D → Type 0) (old new : State D) (r : Option BatchRecord) (id : BatchId) (found : Option BatchRow) → new.disk ≡ old.disk → RanFor calls makes old new r (told_row id found)
row_ran calls makes old new r id None same = same
row_ran calls makes old new r id (Some row) same = same

-- an ask that isn't looked at is nothing to the journal
unseen_memory : (r : Option BatchRecord) → event_of (answers.Reply (tells.Refused MEMORY)) r ≡ None
unseen_memory None = refl
unseen_memory (Some r) = refl

unseen_full : (r : Option BatchRecord) → event_of (answers.Reply (tells.Refused (OWNERFULL Commands))) r ≡ None
unseen_full None = refl
unseen_full (Some r) = refl

-- and what is in doubt stays
row_doubt : (doubt : Option (List ℕ)) (id : BatchId) (found : Option BatchRow) → DoubtFor doubt doubt (told_row id found)
row_doubt doubt id None = refl
row_doubt doubt id (Some row) = refl

refused_doubt : (doubt : Option (List ℕ)) (why : Refusal) → DoubtFor doubt doubt (Refused why)
refused_doubt doubt (DISK before after) = tt
refused_doubt doubt why = refl

row_answers : (id : BatchId) (found : Option BatchRow) → Answers (told_row id found) (status_of id)
row_answers id None = tt
row_answers id (Some row) = refl

noted_one : (seat : Seat) (ask : Ask) (reply : Reply) (counts : Counts) → is_full reply ≡ false → is_memory reply ≡ false → noted_of seat ask reply counts ≡ (record { seat = seat; ask = ask; reply = reply }, counts) ∷ []
noted_one seat ask reply counts full memory = rw (full, memory) refl

not_memory : (reply : Reply) → is_memory reply ≡ true → is_memory reply ≡ false → ⊥
not_memory reply a b = grind (arith, a, b)

told_steady : (disk : Bool) (n : ℕ) → disk ≡ false → IsTold disk n n
told_steady disk n is = subst (λ (b : Bool). IsTold b n n) (sym is) refl

module _ {D : Type 0} (name moment : D → ℕ) (left : D → ℕ → List ℕ → Type 0) (calls : D → Option (List DiskCall)) (makes : D → DiskCall → D → Type 0) (faults : D → ℕ) where
  abbrev pub now_at : State D → Counts
  now_at s = record { before = faults s.disk; after = faults s.disk }

  -- ---- one entry more, and no call of the disk
  module _ (h : Hub D) (s : IsStanding moment left faults h) (seat : Seat) (ask : Ask) (reply : Reply) (bytes : ℕ) (free : at_limit (state_of h) seat.owner ≡ false) (quiet : IsQuiet reply)
      (step : (plain : BatchBody → BatchResult) → store_step (site_of plain h.setup) (state_of h).store seat ask (faults_in (now_at (state_of h)))
      ≡ record { next = record { table = (state_of h).store.table; usage = counted seat.owner false bytes (state_of h).store.usage; journal = (state_of h).store.journal }; reply = told_today reply })
      (event : event_at (state_of h).store (record { seat = seat; ask = ask; reply = reply }, now_at (state_of h)) ≡ None) where
    old : State D
    old = state_of h

    entry : Entry
    entry = record { seat = seat; ask = ask; reply = reply }

    quiet_sound : IsSound (faults h.journal.disk) (noted_in (state_of h) (record { seat = seat; ask = ask; reply = reply }) (now_at (state_of h)) bytes)
    quiet_sound = record {
      spelled = s.sound.spelled;
      doubtful = s.sound.doubtful;
      taken = s.sound.taken;
      table = s.sound.table;
      end = s.sound.end;
      least = s.sound.least;
      fits = s.sound.fits;
      doubt_fits = s.sound.doubt_fits;
      history = λ plain. history_more (site_of plain h.setup) (faults h.journal.disk) (state_of h) (s.sound.history plain) (record { seat = seat; ask = ask; reply = reply }, now_at (state_of h)) h.journal.disk (state_of h).bodies (state_of h).doubt
          (record { table = (state_of h).store.table; usage = counted seat.owner false bytes (state_of h).store.usage; journal = (state_of h).store.journal })
          (free_allowed seat ask (site_of plain h.setup) (state_of h).store free) (step plain) (omega arith) (told_steady (says_disk reply) (faults h.journal.disk) quiet.disk)
          (subst (λ (o : Option Event). Brings (option_to_list o) (journal_of (state_of h)) (journal_of (state_of h))) (sym event) refl) (faults h.journal.disk) (omega arith);
    }

    pub quiet_stands : (new : Hub D) → state_of new ≡ noted_in (state_of h) (record { seat = seat; ask = ask; reply = reply }) (now_at (state_of h)) bytes → new.journal ≡ h.journal → new.setup ≡ h.setup → IsStanding moment left faults new
    quiet_stands new is journal setup = record {
      journal = subst (λ j. Stands moment left j) (sym journal) s.journal;
      limit = ap (λ j. j.limit) journal ∙ (s.limit ∙ ap (λ x. x.limits.journal) (sym setup));
      sound = subst (λ (n : ℕ). IsSound n (state_of new)) (ap (λ j. faults j.disk) (sym journal)) (subst (λ (x : State D). IsSound (faults h.journal.disk) x) (sym is) quiet_sound);
    }

    pub quiet_asked : Answers reply ask → ((new : State D) → new.disk ≡ h.journal.disk → RanFor calls makes (state_of h) new (asked_record (state_of h) seat ask) reply) → DoubtFor (state_of h).doubt (state_of h).doubt reply → (new : State D) → new ≡ noted_in (state_of h) (record { seat = seat; ask = ask; reply = reply }) (now_at (state_of h)) bytes
        → Asked name moment left calls makes faults (state_of h) new seat ask reply
    quiet_asked kind ran doubt new is = subst (λ (x : State D). Asked name moment left calls makes faults (state_of h) x seat ask reply) (sym is) (record {
      kind = kind;
      step = λ _ plain. step plain;
      memory = λ memory. absurd (not_memory reply memory quiet.memory);
      noted = ap (λ (l : List Noted). h.history.items ++ l) (sym (noted_one seat ask reply (now_at (state_of h)) quiet.full quiet.memory));
      any_moment = nothing_done moment left faults h s (asked_record (state_of h) seat ask);
      ran = ran (noted_in (state_of h) (record { seat = seat; ask = ask; reply = reply }) (now_at (state_of h)) bytes) refl;
      doubt = doubt;
      follows = subst (λ (o : Option Event). FollowsBy o (journal_of (state_of h)) (journal_of (state_of h))) (sym event) refl;
      same = refl;
      setup = refl;
      start = (refl, refl);
    })

  -- ---- nothing at all
  pub memory_asked : (h : Hub D) → IsStanding moment left faults h → (seat : Seat) (ask : Ask) (new : State D) → new ≡ state_of h → Asked name moment left calls makes faults (state_of h) new seat ask (Refused MEMORY)
  memory_asked h s seat ask new is = subst (λ (x : State D). Asked name moment left calls makes faults (state_of h) x seat ask (Refused MEMORY)) (sym is) (record {
    kind = tt;
    step = λ is. absurd (grind (arith, is));
    memory = λ _. refl;
    noted = sym (append-nil h.history.items);
    any_moment = nothing_done moment left faults h s (asked_record (state_of h) seat ask);
    ran = refl;
    doubt = refl;
    follows = subst (λ (o : Option Event). FollowsBy o (journal_of (state_of h)) (journal_of (state_of h))) (sym (unseen_memory (asked_record (state_of h) seat ask))) refl;
    same = refl;
    setup = refl;
    start = (refl, refl);
  })

  pub full_asked : (h : Hub D) → IsStanding moment left faults h → (seat : Seat) (ask : Ask) → at_limit (state_of h) seat.owner ≡ true → Asked name moment left calls makes faults (state_of h) (state_of h) seat ask (Refused (OWNERFULL Commands))
  full_asked h s seat ask full = record {
    kind = tt;
    step = λ _ plain. step_full (site_of plain h.setup) (state_of h).store seat ask (faults_in (now_at (state_of h))) full;
    memory = λ is. absurd (grind (arith, is));
    noted = sym (append-nil h.history.items);
    any_moment = nothing_done moment left faults h s (asked_record (state_of h) seat ask);
    ran = refl;
    doubt = refl;
    follows = subst (λ (o : Option Event). FollowsBy o (journal_of (state_of h)) (journal_of (state_of h))) (sym (unseen_full (asked_record (state_of h) seat ask))) refl;
    same = refl;
    setup = refl;
    start = (refl, refl);
  }

  -- ---- a status
  module _ (h : Hub D) (s : IsStanding moment left faults h) (seat : Seat) (id : BatchId) (free : at_limit (state_of h) seat.owner ≡ false) (new : Hub D) (reply : Reply) (n : ℕ) (told : reply ≡ told_status h.table.table seat id) (counted : n ≡ faults h.journal.disk)
      (state : state_of new ≡ noted_in (state_of h) (record { seat = seat; ask = status_of id; reply = reply }) (record { before = n; after = n }) 0) where
    is : state_of new ≡ noted_in (state_of h) (record { seat = seat; ask = status_of id; reply = told_status h.table.table seat id }) (now_at (state_of h)) 0
    is = state ∙ ap₂ (λ (r : Reply) (m : ℕ). noted_in (state_of h) (record { seat = seat; ask = status_of id; reply = r }) (record { before = m; after = m }) 0) told counted

    pub status_stands : new.journal ≡ h.journal → new.setup ≡ h.setup → IsStanding moment left faults new
    status_stands = quiet_stands h s seat (status_of id) (told_status h.table.table seat id) 0 free (quiet_row id (seen_row seat id h.table.table)) (λ plain. step_status (site_of plain h.setup) (state_of h).store seat id (faults_in (now_at (state_of h))) free) refl new is

    pub status_asked : Asked name moment left calls makes faults (state_of h) (state_of new) seat (status_of id) reply
    status_asked = subst (λ (r : Reply). Asked name moment left calls makes faults (state_of h) (state_of new) seat (status_of id) r) (sym told) found where
      found : Asked name moment left calls makes faults (state_of h) (state_of new) seat (status_of id) (told_status h.table.table seat id)
      found = quiet_asked h s seat (status_of id) (told_status h.table.table seat id) 0 free (quiet_row id (seen_row seat id h.table.table)) (λ plain. step_status (site_of plain h.setup) (state_of h).store seat id (faults_in (now_at (state_of h))) free) refl
          (row_answers id (seen_row seat id h.table.table)) (λ x same. row_ran calls makes (state_of h) x None id (seen_row seat id h.table.table) same) (row_doubt (state_of h).doubt id (seen_row seat id h.table.table)) (state_of new) is

  -- ---- a batch that is refused
  module _ (h : Hub D) (s : IsStanding moment left faults h) (seat : Seat) (body : BatchBody) (why : Refusal) (bytes : ℕ) (free : at_limit (state_of h) seat.owner ≡ false)
      (charged : bytes ≡ record_len (batch.Create record { owner = seat.owner; number = 1 } 1 body))
      (refused : (plain : BatchBody → BatchResult) → creating_refusal (site_of plain h.setup) (state_of h).store seat body ≡ Some why) (new : Hub D) (n : ℕ) (counted_is : n ≡ faults h.journal.disk)
      (noted : state_of new ≡ noted_in (state_of h) (record { seat = seat; ask = Create body; reply = Refused why }) (record { before = n; after = n }) bytes) where
    state : state_of new ≡ noted_in (state_of h) (record { seat = seat; ask = Create body; reply = Refused why }) (now_at (state_of h)) bytes
    state = noted ∙ ap (λ (m : ℕ). noted_in (state_of h) (record { seat = seat; ask = Create body; reply = Refused why }) (record { before = m; after = m }) bytes) counted_is

    quiet_why : IsQuiet (Refused why)
    quiet_why = quiet_refusal (site_of no_result h.setup) (state_of h).store seat body why (refused no_result)

    refused_step : (plain : BatchBody → BatchResult) → store_step (site_of plain h.setup) (state_of h).store seat (Create body) (faults_in (now_at (state_of h)))
        ≡ record { next = record { table = (state_of h).store.table; usage = counted seat.owner false bytes (state_of h).store.usage; journal = (state_of h).store.journal }; reply = told_today (Refused why) }
    refused_step plain = step_refused (site_of plain h.setup) (state_of h).store seat body why (faults_in (now_at (state_of h))) free (refused plain)
        ∙ ap (λ (n : ℕ). record { next = record { table = (state_of h).store.table; usage = counted seat.owner false n (state_of h).store.usage; journal = (state_of h).store.journal }; reply = tells.Refused why }) (sym charged)

    pub refused_stands : new.journal ≡ h.journal → new.setup ≡ h.setup → IsStanding moment left faults new
    refused_stands = quiet_stands h s seat (Create body) (Refused why) bytes free quiet_why refused_step (quiet_told why _ quiet_why.disk) new state

    pub refused_asked : Asked name moment left calls makes faults (state_of h) (state_of new) seat (Create body) (Refused why)
    refused_asked = quiet_asked h s seat (Create body) (Refused why) bytes free quiet_why refused_step (quiet_told why _ quiet_why.disk) tt
        (λ x same. quiet_ran calls makes (state_of h) x (asked_record (state_of h) seat (Create body)) why quiet_why.disk same) (refused_doubt (state_of h).doubt why) (state_of new) state
