-- A batch whose record was appended, or whose append failed.
use Rattle.std.proofs.Common.{◌≡◌, ◌⊎◌, inl, inr, refl, sym, ◌∙◌, ap, ap₂, subst, arith, ℕ, suc, ◌+◌, ◌*◌, ◌-◌, ◌<◌, ◌≤◌, ◌^◌, Bool, true, false, List, [], ◌∷◌, ◌++◌, length, map, min, Option, Some, None, length-append}
use Rattle.std.specs.List.{All}
use Rattle.std.specs.Option.{option_map}
use Rattle.std.specs.Prelude.{IfSome, option_to_list}
use Rattle.std.proofs.lemmas.List.{append-nil}
use Rattle.base_names.specs.Outside.{Rose}
use Rattle.base_names.specs.declared.id.BatchId.{BatchId}
use Rattle.base_names.specs.declared.refusal.Refusal.{Refusal}
use Rattle.base_names.specs.declared.refusal.Refusal.TheVariants.{DISK}
use Rattle.base_names.specs.declared.seat.Seat.{Seat}
use Rattle.cluster_defs.specs.Appended.{next_id}
use Rattle.cluster_defs.specs.Asks as asks
use Rattle.cluster_defs.specs.Charges.{counted}
use Rattle.cluster_defs.specs.Cluster as cluster
use Rattle.cluster_defs.specs.Journal.{AreAllTaken, Journal, table_behind, was_failed, was_kept}
use Rattle.cluster_defs.specs.Refusals.{need, reserve, reserved}
use Rattle.cluster_defs.specs.Replies as tells
use Rattle.cluster_defs.specs.Site.{Site}
use Rattle.cluster_defs.specs.Store.{Store, store_step}
use Rattle.cluster_defs.specs.declared.ask.Ask.{Ask}
use Rattle.cluster_defs.specs.declared.ask.Ask.TheVariants.{Create}
use Rattle.cluster_defs.specs.declared.entry.Entry.{Entry}
use Rattle.cluster_defs.specs.declared.reply.Reply.{Reply}
use Rattle.cluster_defs.specs.declared.reply.Reply.TheVariants.{Made, Refused}
use Rattle.disk_model.proofs.Moments.{weaker}
use Rattle.disk_model.specs.Calls.{DiskCall}
use Rattle.disk_model.specs.Moments.{LeavesOnly}
use Rattle.hub_core.proofs.Keeping.{adding_keeps}
use Rattle.hub_core.proofs.Lists.{after_more, all_spelled_more, nothing_more, read_more, reads, taken_more}
use Rattle.hub_core.proofs.Sound.{history_more}
use Rattle.hub_core.proofs.Steps.{free_allowed, new_taken, reserve_more, room_for, step_disk, step_made}
use Rattle.hub_core.proofs.Within.{end_more, nothing_within, one_more_within, sound_within}
use Rattle.hub_core.specs.Answering.{Asked, IsCreation, admitted_in, at_limit, creating_refusal, noted_in}
use Rattle.hub_core.specs.Keeping.{AreSpelled, IsSpelled, Keeps, WhileKeeping, read_all, read_one, space_of}
use Rattle.hub_core.specs.Noting.{Noted}
use Rattle.hub_core.specs.Sites.{site_of}
use Rattle.hub_core.specs.Standing.{IsItsHistory, IsSound, IsStanding}
use Rattle.hub_core.specs.State.{State, journal_of, state_of}
use Rattle.hub_core.specs.declared.setup.Counts.{Counts}
use Rattle.hub_core.specs.declared.hub.Hub.{Hub}
use Rattle.journal.specs.declared.journal.Journal as journals
use Rattle.journal.specs.Plans.{FailedAdding, RanOn, append_plan}
use Rattle.journal.specs.Standing.{Holds, Stands, WhileAdding, bodies_of, doubt_of}
use Rattle.model_data.specs.declared.batch.BatchBody.{BatchBody}
use Rattle.model_data.specs.declared.batch.BatchRecord.{BatchRecord}
use Rattle.model_data.specs.declared.batch.BatchRecord.TheVariants as batch
use Rattle.model_data.specs.declared.batch.BatchResult.{BatchResult}
use Rattle.rec_format.specs.Bodies as bodies
use Rattle.rec_format.specs.Format.{OneSpelling, number}
use Rattle.rec_format.specs.Ids as ids
use Rattle.rec_format.specs.Lawful.{IsLawfulRecord}
use Rattle.rec_format.specs.Records.{RecordFits, batch_record, record_len, record_write}
use Rattle.table_defs.specs.Table.{Table, after, applied, greatest, no_rows}
use Rattle.table_defs.specs.Taken.{AreTaken, refusal}

no_result : BatchBody → BatchResult
no_result body = record { outcome = record { status = 0; pivots = 0; nodes = 0; work = 0; point = None; wide = None }; cert = None }

module _ (law : OneSpelling batch_record) (fits : (r : BatchRecord) → IsLawfulRecord r → RecordFits r)
    {D : Type 0} (name moment : D → ℕ) (left : D → ℕ → List ℕ → Type 0) (calls : D → Option (List DiskCall)) (makes : D → DiskCall → D → Type 0) (faults : D → ℕ)
    (old : State D) (s : IsSound (faults old.disk) old) (seat : Seat) (body : BatchBody) (bytes : ℕ) (free : at_limit old seat.owner ≡ false)
    (charge : bytes ≡ record_len (batch.Create record { owner = seat.owner; number = 1 } 1 body))
    (none : (plain : BatchBody → BatchResult) → creating_refusal (site_of plain old.setup) old.store seat body ≡ None)
    (lawful : IsLawfulRecord (batch.Create (next_id seat.owner old.store.table) 1 body)) (disk : D) where
  abbrev pub new_record : BatchRecord
  new_record = batch.Create (next_id seat.owner old.store.table) 1 body

  abbrev pub usage_more : List cluster.Usage
  usage_more = counted seat.owner false bytes old.store.usage

  takes : refusal new_record (table_behind (journal_of old)) ≡ None
  takes = subst (λ (t : Table). refusal new_record t ≡ None) s.table (new_taken seat.owner 1 body old.store.table)

  fits_old : space_of (journal_of old).records ≤ old.setup.limits.journal
  fits_old = sound_within (faults old.disk) old s

  fits_more : space_of ((journal_of old).records ++ new_record ∷ []) ≤ old.setup.limits.journal
  fits_more = one_more_within (faults old.disk) old s new_record (room_for (site_of no_result old.setup) old.store seat body (none no_result))

  keeps_old : (image : List ℕ) → Holds (map record_write (journal_of old).records) (option_map record_write (journal_of old).doubt) image → Keeps old.setup.limits.journal (journal_of old) image
  keeps_old image held = record { held = held; lawful = s.spelled.lawful; doubt_lawful = s.doubtful.lawful; taken = s.taken; within = record { records = fits_old; doubt = s.doubt_fits } }

  -- while the record is added
  pub appending : LeavesOnly moment left old.disk disk (WhileAdding old.bodies old.doubt (record_write new_record)) → LeavesOnly moment left old.disk disk (WhileKeeping old.setup.limits.journal (journal_of old) (Some new_record))
  appending run = weaker moment left old.disk disk _ _ (adding_keeps old.setup.limits.journal (journal_of old) new_record keeps_old lawful takes s.taken.taken s.spelled.lawful fits_old fits_more)
      (subst (λ (bodies : List (List ℕ)). LeavesOnly moment left old.disk disk (WhileAdding bodies (option_map record_write (journal_of old).doubt) (record_write new_record))) s.spelled.written
      (subst (λ (doubt : Option (List ℕ)). LeavesOnly moment left old.disk disk (WhileAdding old.bodies doubt (record_write new_record))) s.doubtful.written run))

  -- ---- it was kept
  abbrev pub made_entry : Noted
  made_entry = (record { seat = seat; ask = Create body; reply = Made (next_id seat.owner old.store.table) }, record { before = faults old.disk; after = faults disk })

  abbrev pub made_state : State D
  made_state = record {
    disk = disk;
    bodies = old.bodies ++ record_write new_record ∷ [];
    doubt = None;
    store = record { table = applied new_record old.store.table; usage = usage_more; journal = old.store.journal + 5 + record_len new_record };
    history = old.history ++ made_entry ∷ [];
    setup = old.setup;
    start = old.start;
    begun = old.begun;
  }

  more : read_all (old.bodies ++ record_write new_record ∷ []) ≡ read_all old.bodies ++ new_record ∷ []
  more = read_more law fits old.bodies new_record lawful

  made_step : faults disk ≡ faults old.disk → (plain : BatchBody → BatchResult) → store_step (site_of plain old.setup) old.store seat (Create body) (record { before = faults old.disk; after = faults disk })
      ≡ record { next = made_state.store; reply = tells.Made (next_id seat.owner old.store.table) }
  made_step steady plain = step_made (site_of plain old.setup) old.store seat body (record { before = faults old.disk; after = faults disk }) free (none plain) (omega (arith, steady))
      ∙ ap (λ (n : ℕ). record { next = record { table = applied new_record old.store.table; usage = counted seat.owner false n old.store.usage; journal = old.store.journal + 5 + record_len new_record }; reply = tells.Made (next_id seat.owner old.store.table) }) (sym charge)

  pub made_sound : faults disk ≡ faults old.disk → IsSound (faults disk) made_state
  made_sound steady = record {
    spelled = all_spelled_more law fits old.bodies new_record lawful s.spelled;
    doubtful = record { written = refl; lawful = tt };
    taken = record { taken = taken_now; doubt = nothing_more (read_all (old.bodies ++ record_write new_record ∷ [])) None refl taken_now };
    table = ap (applied new_record) s.table ∙ (sym (after_more (read_all old.bodies) new_record no_rows) ∙ ap (λ (rs : List BatchRecord). after rs no_rows) (sym more));
    end = end_more old.bodies (record_write new_record) old.store.journal s.end;
    least = s.least;
    fits = omega (arith, room_for (site_of no_result old.setup) old.store seat body (none no_result));
    doubt_fits = nothing_within old.setup.limits.journal (read_all (old.bodies ++ record_write new_record ∷ [])) None refl (subst (λ (rs : List BatchRecord). space_of rs ≤ old.setup.limits.journal) (sym more) fits_more);
    history = λ plain. history_more (site_of plain old.setup) (faults old.disk) old (s.history plain) made_entry disk made_state.bodies None made_state.store
        (free_allowed seat (Create body) (site_of plain old.setup) old.store free) (made_step steady plain) (omega arith) (sym steady)
        (journal_of made_state, (more, refl), refl) (faults disk) (omega arith);
  } where
    taken_now : AreTaken (read_all (old.bodies ++ record_write new_record ∷ [])) no_rows
    taken_now = subst (λ (rs : List BatchRecord). AreTaken rs no_rows) (sym more) (taken_more (read_all old.bodies) new_record s.taken.taken takes)

  pub made_asked : faults disk ≡ faults old.disk → name disk ≡ name old.disk → LeavesOnly moment left old.disk disk (WhileAdding old.bodies old.doubt (record_write new_record))
      → RanOn calls makes (append_plan old.doubt old.store.journal (record_write new_record)) old.disk disk true → Asked name moment left calls makes faults old made_state seat (Create body) (Made (next_id seat.owner old.store.table))
  made_asked steady same run ran = record {
    kind = tt;
    step = λ _ plain. made_step steady plain;
    memory = λ is. absurd (grind (arith, is));
    noted = refl;
    any_moment = appending run;
    ran = ran;
    doubt = refl;
    follows = (takes, (more, refl));
    same = same;
    setup = refl;
    start = (refl, refl);
  }

  -- the state as it is found, by what is known of each of its parts
  abbrev pub made_shape : (bodies : List (List ℕ)) (doubt : Option (List ℕ)) (end before behind : ℕ) → State D
  made_shape bodies doubt end before behind = record {
    disk = disk;
    bodies = bodies;
    doubt = doubt;
    store = record { table = applied new_record old.store.table; usage = usage_more; journal = end };
    history = old.history ++ (record { seat = seat; ask = Create body; reply = Made (next_id seat.owner old.store.table) }, record { before = before; after = behind }) ∷ [];
    setup = old.setup;
    start = old.start;
    begun = old.begun;
  }

  pub made_is : (bodies : List (List ℕ)) (doubt : Option (List ℕ)) (end before behind : ℕ) → bodies ≡ old.bodies ++ record_write new_record ∷ [] → doubt ≡ None → end ≡ old.store.journal + 5 + record_len new_record → before ≡ faults old.disk → behind ≡ faults disk → made_shape bodies doubt end before behind ≡ made_state
  made_is bodies doubt end before behind b d e n m =
      ap₂ (λ (bs : List (List ℕ)) (o : Option (List ℕ)). made_shape bs o end before behind) b d
      ∙ (ap (λ (x : ℕ). made_shape (old.bodies ++ record_write new_record ∷ []) None x before behind) e
      ∙ ap₂ (λ (x y : ℕ). made_shape (old.bodies ++ record_write new_record ∷ []) None (old.store.journal + 5 + record_len new_record) x y) n m)

  -- ---- the disk failed
  module _ (doubt : Option (List ℕ)) (doubts : (doubt ≡ old.doubt) ⊎ ((doubt ≡ None) ⊎ (doubt ≡ Some (record_write new_record)))) (rose : faults old.disk < faults disk) where
    abbrev pub failed_entry : Noted
    failed_entry = (record { seat = seat; ask = Create body; reply = Refused (DISK (faults old.disk) (faults disk)) }, record { before = faults old.disk; after = faults disk })

    abbrev pub failed_state : State D
    failed_state = record {
      disk = disk;
      bodies = old.bodies;
      doubt = doubt;
      store = record { table = old.store.table; usage = usage_more; journal = old.store.journal };
      history = old.history ++ failed_entry ∷ [];
      setup = old.setup;
      start = old.start;
      begun = old.begun;
    }

    failed_step : (plain : BatchBody → BatchResult) → store_step (site_of plain old.setup) old.store seat (Create body) (record { before = faults old.disk; after = faults disk })
        ≡ record { next = failed_state.store; reply = tells.Refused (DISK (faults old.disk) (faults disk)) }
    failed_step plain = step_disk (site_of plain old.setup) old.store seat body (record { before = faults old.disk; after = faults disk }) free (none plain) rose
        ∙ ap (λ (n : ℕ). record { next = record { table = old.store.table; usage = counted seat.owner false n old.store.usage; journal = old.store.journal }; reply = tells.Refused (DISK (faults old.disk) (faults disk)) }) (sym charge)

    reads_new : read_one (Some (record_write new_record)) ≡ Some new_record
    reads_new = reads law fits new_record lawful

    doubt_is : (read_one doubt ≡ read_one old.doubt) ⊎ ((read_one doubt ≡ Some new_record) ⊎ (read_one doubt ≡ None))
    doubt_is = elim doubts [
      | inl same ↦ inl (ap read_one same)
      | inr other ↦ elim other [ inl nothing ↦ inr (inr (ap read_one nothing)) | inr here ↦ inr (inl (ap read_one here ∙ reads_new)) ]
    ]

    spelled_doubt : IsSpelled (read_one doubt) doubt
    spelled_doubt = elim doubts [
      | inl same ↦ subst (λ (d : Option (List ℕ)). IsSpelled (read_one d) d) (sym same) s.doubtful
      | inr other ↦ elim other [
        | inl nothing ↦ subst (λ (d : Option (List ℕ)). IsSpelled (read_one d) d) (sym nothing) (record { written = refl; lawful = tt })
        | inr here ↦ subst (λ (d : Option (List ℕ)). IsSpelled (read_one d) d) (sym here) (subst (λ (r : Option BatchRecord). IsSpelled r (Some (record_write new_record))) (sym reads_new) (record { written = refl; lawful = lawful }))
      ]
    ]

    taken_doubt : AreTaken (read_all old.bodies ++ option_to_list (read_one doubt)) no_rows
    taken_doubt = elim doubt_is [
      | inl same ↦ subst (λ (d : Option BatchRecord). AreTaken (read_all old.bodies ++ option_to_list d) no_rows) (sym same) s.taken.doubt
      | inr other ↦ elim other [
        | inl here ↦ subst (λ (d : Option BatchRecord). AreTaken (read_all old.bodies ++ option_to_list d) no_rows) (sym here) (taken_more (read_all old.bodies) new_record s.taken.taken takes)
        | inr nothing ↦ nothing_more (read_all old.bodies) (read_one doubt) nothing s.taken.taken
      ]
    ]

    fits_doubt : space_of (read_all old.bodies ++ option_to_list (read_one doubt)) ≤ old.setup.limits.journal
    fits_doubt = elim doubt_is [
      | inl same ↦ subst (λ (d : Option BatchRecord). space_of (read_all old.bodies ++ option_to_list d) ≤ old.setup.limits.journal) (sym same) s.doubt_fits
      | inr other ↦ elim other [
        | inl here ↦ subst (λ (d : Option BatchRecord). space_of (read_all old.bodies ++ option_to_list d) ≤ old.setup.limits.journal) (sym here) fits_more
        | inr nothing ↦ nothing_within old.setup.limits.journal (read_all old.bodies) (read_one doubt) nothing fits_old
      ]
    ]

    pub failed_sound : IsSound (faults disk) failed_state
    failed_sound = record {
      spelled = s.spelled;
      doubtful = spelled_doubt;
      taken = record { taken = s.taken.taken; doubt = taken_doubt };
      table = s.table;
      end = s.end;
      least = s.least;
      fits = s.fits;
      doubt_fits = fits_doubt;
      history = λ plain. history_more (site_of plain old.setup) (faults old.disk) old (s.history plain) failed_entry disk old.bodies doubt failed_state.store
          (free_allowed seat (Create body) (site_of plain old.setup) old.store free) (failed_step plain) (omega arith) rose
          (journal_of failed_state, (refl, doubt_is), refl) (faults disk) (omega arith);
    }

    pub failed_asked : name disk ≡ name old.disk → LeavesOnly moment left old.disk disk (WhileAdding old.bodies old.doubt (record_write new_record))
        → FailedAdding calls makes old.doubt old.store.journal (record_write new_record) doubt old.disk disk → Asked name moment left calls makes faults old failed_state seat (Create body) (Refused (DISK (faults old.disk) (faults disk)))
    failed_asked same run ran = record {
      kind = tt;
      step = λ _ plain. failed_step plain;
      memory = λ is. absurd (grind (arith, is));
      noted = refl;
      any_moment = appending run;
      ran = ran;
      doubt = tt;
      follows = (takes, (refl, doubt_is));
      same = same;
      setup = refl;
      start = (refl, refl);
    }

    abbrev pub failed_shape : (bodies : List (List ℕ)) (end before behind : ℕ) → State D
    failed_shape bodies end before behind = record {
      disk = disk;
      bodies = bodies;
      doubt = doubt;
      store = record { table = old.store.table; usage = usage_more; journal = end };
      history = old.history ++ (record { seat = seat; ask = Create body; reply = Refused (DISK before behind) }, record { before = before; after = behind }) ∷ [];
      setup = old.setup;
      start = old.start;
      begun = old.begun;
    }

    pub failed_is : (bodies : List (List ℕ)) (end before behind : ℕ) → bodies ≡ old.bodies → end ≡ old.store.journal → before ≡ faults old.disk → behind ≡ faults disk → failed_shape bodies end before behind ≡ failed_state
    failed_is bodies end before behind b e n m = ap₂ (λ (bs : List (List ℕ)) (x : ℕ). failed_shape bs x before behind) b e ∙ ap₂ (λ (x y : ℕ). failed_shape old.bodies old.store.journal x y) n m

-- what a failed append leaves in doubt
pub doubts_of : {D : Type 0} (calls : D → Option (List DiskCall)) (makes : D → DiskCall → D → Type 0) (doubt : Option (List ℕ)) (end : ℕ) (body : List ℕ) (after : Option (List ℕ)) (old new : D) → FailedAdding calls makes doubt end body after old new → (after ≡ doubt) ⊎ ((after ≡ None) ⊎ (after ≡ Some body))
doubts_of calls makes doubt end body after old new (inl same) = inl same.0
doubts_of calls makes doubt end body after old new (inr (inl none)) = inr (inl none.0)
doubts_of calls makes doubt end body after old new (inr (inr here)) = inr (inr here.0)

-- The count rose, where it wasn't at the end of its type.
pub rose_above : (before after : ℕ) → before < 2 ^ 64 - 1 → Rose before after → before < after
rose_above before after small rose = omega (arith, rose)

-- what a hub stands for is sound, and so it stands
pub stands_by : {D : Type 0} (moment : D → ℕ) (left : D → ℕ → List ℕ → Type 0) (faults : D → ℕ) (old new : Hub D) (j : journals.Journal D) (x : State D) → IsStanding moment left faults old → Stands moment left j → j.limit ≡ old.journal.limit → new.journal ≡ j → new.setup ≡ old.setup → state_of new ≡ x → IsSound (faults j.disk) x → IsStanding moment left faults new
stands_by moment left faults old new j x s stands limit journal setup is sound = record {
  journal = subst (λ i. Stands moment left i) (sym journal) stands;
  limit = ap (λ i. i.limit) journal ∙ (limit ∙ (s.limit ∙ ap (λ y. y.limits.journal) (sym setup)));
  sound = subst (λ (n : ℕ). IsSound n (state_of new)) (ap (λ i. faults i.disk) (sym journal)) (subst (λ (y : State _). IsSound (faults j.disk) y) (sym is) sound);
}

-- no record's length depends on its batch's number
four_len : (front number other attempt rest : List ℕ) → length number ≡ length other → length (((front ++ number) ++ attempt) ++ rest) ≡ length (((front ++ other) ++ attempt) ++ rest)
four_len front number other attempt rest same =
    let a = length-append ((front ++ number) ++ attempt) rest in
    let b = length-append ((front ++ other) ++ attempt) rest in
    let c = length-append (front ++ number) attempt in
    let d = length-append (front ++ other) attempt in
    let e = length-append front number in
    let f = length-append front other in
    omega (arith, a, b, c, d, e, f, same)

pub same_len : (owner : List ℕ) (m n attempt : ℕ) (body : BatchBody) → record_len (batch.Create record { owner = owner; number = m } attempt body) ≡ record_len (batch.Create record { owner = owner; number = n } attempt body)
unfolding number
same_len owner m n attempt body = ap suc (four_len (ids.owner.write owner) ((number 4).write m) ((number 4).write n) ((number 4).write attempt) (bodies.body.write body) refl)

module _ (law : OneSpelling batch_record) (fits : (r : BatchRecord) → IsLawfulRecord r → RecordFits r)
    {D : Type 0} (name moment : D → ℕ) (left : D → ℕ → List ℕ → Type 0) (calls : D → Option (List DiskCall)) (makes : D → DiskCall → D → Type 0) (faults : D → ℕ)
    (h new : Hub D) (j : journals.Journal D) (s : IsStanding moment left faults h) (seat : Seat) (id : BatchId) (body : BatchBody) (text : List ℕ) (bytes before behind : ℕ) (free : at_limit (state_of h) seat.owner ≡ false)
    (creates : IsCreation (state_of h) seat bytes (batch.Create id 1 body)) (written : text ≡ record_write (batch.Create id 1 body)) (lawful : IsLawfulRecord (batch.Create id 1 body))
    (was : before ≡ faults h.journal.disk) (now : behind ≡ faults j.disk) (stands : Stands moment left j) (limit : j.limit ≡ h.journal.limit) (journal : new.journal ≡ j) (setup : new.setup ≡ h.setup) (same : name j.disk ≡ name h.journal.disk)
    (run : LeavesOnly moment left h.journal.disk j.disk (WhileAdding (bodies_of h.journal) (doubt_of h.journal) text)) where
  next : id ≡ next_id seat.owner h.table.table
  next = creates.0

  lawful_next : IsLawfulRecord (batch.Create (next_id seat.owner h.table.table) 1 body)
  lawful_next = subst (λ (i : BatchId). IsLawfulRecord (batch.Create i 1 body)) next lawful

  text_is : text ≡ record_write (batch.Create (next_id seat.owner h.table.table) 1 body)
  text_is = written ∙ ap (λ (i : BatchId). record_write (batch.Create i 1 body)) next

  run_is : LeavesOnly moment left h.journal.disk j.disk (WhileAdding (bodies_of h.journal) (doubt_of h.journal) (record_write (batch.Create (next_id seat.owner h.table.table) 1 body)))
  run_is = subst (λ (t : List ℕ). LeavesOnly moment left h.journal.disk j.disk (WhileAdding (bodies_of h.journal) (doubt_of h.journal) t)) text_is run

  module _ (steady : faults j.disk ≡ faults h.journal.disk) (kept : bodies_of j ≡ bodies_of h.journal ++ text ∷ []) (sure : doubt_of j ≡ None) (end : j.end ≡ h.journal.end + 5 + length text)
      (admitted : state_of new ≡ admitted_in (state_of (record h { journal = j })) seat id body (record { before = before; after = behind }) bytes) where
    found : state_of new ≡ made_state law fits name moment left calls makes faults (state_of h) s.sound seat body bytes free creates.2 creates.3 lawful_next j.disk
    found = admitted ∙ (ap (λ (i : BatchId). admitted_in (state_of (record h { journal = j })) seat i body (record { before = before; after = behind }) bytes) next
        ∙ made_is law fits name moment left calls makes faults (state_of h) s.sound seat body bytes free creates.2 creates.3 lawful_next j.disk (bodies_of j) (doubt_of j) j.end before behind
        (kept ∙ ap (λ (t : List ℕ). bodies_of h.journal ++ t ∷ []) text_is) sure (end ∙ ap (λ (t : List ℕ). h.journal.end + 5 + length t) text_is) was now)

    pub kept_stands : IsStanding moment left faults new
    kept_stands = stands_by moment left faults h new j _ s stands limit journal setup found (made_sound law fits name moment left calls makes faults (state_of h) s.sound seat body bytes free creates.2 creates.3 lawful_next j.disk steady)

    pub kept_asked : RanOn calls makes (append_plan (doubt_of h.journal) h.journal.end text) h.journal.disk j.disk true → Asked name moment left calls makes faults (state_of h) (state_of new) seat (Create body) (Made id)
    kept_asked ran = subst (λ (i : BatchId). Asked name moment left calls makes faults (state_of h) (state_of new) seat (Create body) (Made i)) (sym next)
        (subst (λ (x : State D). Asked name moment left calls makes faults (state_of h) x seat (Create body) (Made (next_id seat.owner h.table.table))) (sym found)
        (made_asked law fits name moment left calls makes faults (state_of h) s.sound seat body bytes free creates.2 creates.3 lawful_next j.disk steady same run_is
        (subst (λ (t : List ℕ). RanOn calls makes (append_plan (doubt_of h.journal) h.journal.end t) h.journal.disk j.disk true) text_is ran)))

  -- it fits the journal
  pub fits_in : h.journal.end + 5 + length text ≤ h.journal.limit
  fits_in = let room = room_for (site_of no_result h.setup) (state_of h).store seat body (creates.3 no_result) in let len = ap length text_is in omega (arith, room, len, s.limit)

  module _ (small : faults h.journal.disk < 2 ^ 64 - 1) (rose : Rose (faults h.journal.disk) (faults j.disk)) (kept : bodies_of j ≡ bodies_of h.journal) (end : j.end ≡ h.journal.end)
      (failed : FailedAdding calls makes (doubt_of h.journal) h.journal.end text (doubt_of j) h.journal.disk j.disk)
      (noted : state_of new ≡ noted_in (state_of (record h { journal = j })) (record { seat = seat; ask = Create body; reply = Refused (DISK before behind) }) (record { before = before; after = behind }) bytes) where
    failed_next : FailedAdding calls makes (doubt_of h.journal) h.journal.end (record_write (batch.Create (next_id seat.owner h.table.table) 1 body)) (doubt_of j) h.journal.disk j.disk
    failed_next = subst (λ (t : List ℕ). FailedAdding calls makes (doubt_of h.journal) h.journal.end t (doubt_of j) h.journal.disk j.disk) text_is failed

    above : faults h.journal.disk < faults j.disk
    above = rose_above (faults h.journal.disk) (faults j.disk) small rose

    doubts : (doubt_of j ≡ doubt_of h.journal) ⊎ ((doubt_of j ≡ None) ⊎ (doubt_of j ≡ Some (record_write (batch.Create (next_id seat.owner h.table.table) 1 body))))
    doubts = doubts_of calls makes (doubt_of h.journal) h.journal.end (record_write (batch.Create (next_id seat.owner h.table.table) 1 body)) (doubt_of j) h.journal.disk j.disk failed_next

    found_failed : state_of new ≡ failed_state law fits name moment left calls makes faults (state_of h) s.sound seat body bytes free creates.2 creates.3 lawful_next j.disk (doubt_of j) doubts above
    found_failed = noted ∙ failed_is law fits name moment left calls makes faults (state_of h) s.sound seat body bytes free creates.2 creates.3 lawful_next j.disk (doubt_of j) doubts above (bodies_of j) j.end before behind kept end was now

    pub failed_stands : IsStanding moment left faults new
    failed_stands = stands_by moment left faults h new j _ s stands limit journal setup found_failed (failed_sound law fits name moment left calls makes faults (state_of h) s.sound seat body bytes free creates.2 creates.3 lawful_next j.disk (doubt_of j) doubts above)

    pub failed_answered : Asked name moment left calls makes faults (state_of h) (state_of new) seat (Create body) (Refused (DISK before behind))
    failed_answered = subst (λ (r : Refusal). Asked name moment left calls makes faults (state_of h) (state_of new) seat (Create body) (Refused r)) (sym (ap₂ DISK was now))
        (subst (λ (x : State D). Asked name moment left calls makes faults (state_of h) x seat (Create body) (Refused (DISK (faults h.journal.disk) (faults j.disk)))) (sym found_failed)
        (failed_asked law fits name moment left calls makes faults (state_of h) s.sound seat body bytes free creates.2 creates.3 lawful_next j.disk (doubt_of j) doubts above same run_is failed_next))
