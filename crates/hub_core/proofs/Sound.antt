-- A hub between its calls, with one entry more or with none.
use Rattle.std.proofs.Common.{◌≡◌, ◌⊎◌, inl, inr, refl, sym, ◌∙◌, ap, ap₂, subst, arith, ℕ, ◌+◌, ◌<◌, ◌≤◌, ◌^◌, Bool, true, false, List, [], ◌∷◌, ◌++◌, length, map, Option, Some, None}
use Rattle.std.specs.Option.{option_map, IsSomeAnd}
use Rattle.std.specs.Prelude.{IfSome, option_to_list}
use Rattle.std.proofs.lemmas.List.{append-nil, map-append}
use Rattle.cluster_defs.specs.Asks.{asked_today}
use Rattle.cluster_defs.specs.Ends.{end_of}
use Rattle.cluster_defs.specs.Journal.{AreAllTaken, Becomes, Event, Journal, table_behind, was_failed, was_kept}
use Rattle.cluster_defs.specs.Legal.{IsTold}
use Rattle.cluster_defs.specs.Life.{Brings}
use Rattle.cluster_defs.specs.Refusals.{commands_refusal, reserve}
use Rattle.cluster_defs.specs.Replies.{told_today}
use Rattle.cluster_defs.specs.Site.{Site}
use Rattle.cluster_defs.specs.Store.{Store, Stored}
use Rattle.disk_model.proofs.Moments.{starts}
use Rattle.disk_model.specs.Moments.{LeavesOnly}
use Rattle.hub_core.proofs.Lists.{nothing_more, taken_more}
use Rattle.hub_core.proofs.Within.{sound_within}
use Rattle.hub_core.proofs.Noting.{behind_more, brings_more, events_more, faults_more, stored_more}
use Rattle.hub_core.specs.Keeping.{AreSpelled, IsSpelled, Keeps, WhileKeeping, read_all, read_one}
use Rattle.hub_core.specs.Noting.{AreStored, IsStoredStep, Noted, event_at, faults_behind, says_disk, store_behind, store_events, stored_at}
use Rattle.hub_core.specs.Sites.{site_of}
use Rattle.hub_core.specs.Standing.{IsItsHistory, IsSound, IsStanding, start_store}
use Rattle.hub_core.specs.State.{State, journal_of, start_of, state_of}
use Rattle.hub_core.specs.declared.hub.Hub.{Hub}
use Rattle.journal.proofs.Holding.{standing_holds}
use Rattle.journal.specs.Standing.{Holds, Stands, bodies_of, doubt_of}
use Rattle.model_data.specs.declared.batch.BatchBody.{BatchBody}
use Rattle.model_data.specs.declared.batch.BatchRecord.{BatchRecord}
use Rattle.model_data.specs.declared.batch.BatchResult.{BatchResult}
use Rattle.rec_format.specs.Records.{record_write}

-- ---- one entry more

module _ {D : Type 0} (k : Site) (n : ℕ) (old : State D) (h : IsItsHistory k n old) (e : Noted) (disk : D) (bodies : List (List ℕ)) (doubt : Option (List ℕ)) (store : Store) where
  abbrev pub with_entry : State D
  with_entry = record { disk = disk; bodies = bodies; doubt = doubt; store = store; history = old.history ++ e ∷ []; setup = old.setup; start = old.start; begun = old.begun }

  pub history_more : commands_refusal k old.store.usage [] e.0.seat (asked_today e.0.ask) ≡ None → stored_at k old.store e ≡ record { next = store; reply = told_today e.0.reply } → n ≤ e.1.before → IsTold (says_disk e.0.reply) e.1.before e.1.after
      → Brings (option_to_list (event_at old.store e)) (journal_of old) (journal_of with_entry) → (m : ℕ) → e.1.after ≤ m → IsItsHistory k m with_entry
  history_more may step later told brings m within = record {
    legal = stored_more k old.begun (start_store k old) old.history e h.legal (subst (λ (s : Store). IsStoredStep k s (faults_behind old.begun old.history) e) h.behind last);
    behind = sym (behind_more k (start_store k old) old.history e ∙ (ap (λ (s : Store). (stored_at k s e).next) (sym h.behind) ∙ ap (λ (o : Stored). o.next) step));
    brought = subst (λ (events : List Event). Brings events (start_of old) (journal_of with_entry)) (sym (events_more k (start_store k old) old.history e))
        (brings_more (store_events k (start_store k old) old.history) (option_to_list (event_at (store_behind k (start_store k old) old.history) e)) (start_of old) (journal_of old) (journal_of with_entry) h.brought
        (subst (λ (s : Store). Brings (option_to_list (event_at s e)) (journal_of old) (journal_of with_entry)) h.behind brings));
    counted = subst (λ (f : ℕ). f ≤ m) (sym (faults_more old.begun old.history e)) within;
  } where
    last : IsStoredStep k old.store (faults_behind old.begun old.history) e
    last = record { may = may; reply = sym (ap (λ (o : Stored). o.reply) step); later = omega (arith, h.counted, later); told = told }

-- ---- none more

-- the disk itself is no part of what is sound
pub sound_on : {D : Type 0} (n m : ℕ) (s : State D) (disk : D) → n ≡ m → IsSound n s → IsSound m (record s { disk = disk })
sound_on n m s disk same is = record {
  spelled = is.spelled;
  doubtful = is.doubtful;
  taken = is.taken;
  table = is.table;
  end = is.end;
  least = is.least;
  fits = is.fits;
  doubt_fits = is.doubt_fits;
  history = λ plain. let h = is.history plain in record { legal = h.legal; behind = h.behind; brought = h.brought; counted = omega (arith, h.counted, same) };
}

module _ {D : Type 0} (moment : D → ℕ) (left : D → ℕ → List ℕ → Type 0) (faults : D → ℕ) where
  pub stands_as : (old new : Hub D) → IsStanding moment left faults old → Stands moment left new.journal → new.journal.limit ≡ old.journal.limit → faults new.journal.disk ≡ faults old.journal.disk → state_of new ≡ record (state_of old) { disk = new.journal.disk } → new.setup ≡ old.setup → IsStanding moment left faults new
  stands_as old new s journal limit same state setup = record {
    journal = journal;
    limit = limit ∙ (s.limit ∙ ap (λ x. x.limits.journal) (sym setup));
    sound = subst (λ (x : State D). IsSound (faults new.journal.disk) x) (sym state) (sound_on (faults old.journal.disk) (faults new.journal.disk) (state_of old) new.journal.disk (sym same) s.sound);
  }

  -- each image that a crash may leave now keeps what the hub's journal says
  pub standing_keeps : (h : Hub D) → IsStanding moment left faults h → (image : List ℕ) → left h.journal.disk (moment h.journal.disk) image → Keeps h.setup.limits.journal (journal_of (state_of h)) image
  standing_keeps h s image is = record {
    held = subst (λ (bodies : List (List ℕ)). Holds bodies (option_map record_write (journal_of (state_of h)).doubt) image) s.sound.spelled.written
        (subst (λ (doubt : Option (List ℕ)). Holds (bodies_of h.journal) doubt image) s.sound.doubtful.written (standing_holds moment left h.journal image s.journal is));
    lawful = s.sound.spelled.lawful;
    doubt_lawful = s.sound.doubtful.lawful;
    taken = s.sound.taken;
    within = record { records = sound_within (faults h.journal.disk) (state_of h) s.sound; doubt = s.sound.doubt_fits };
  }

  pub nothing_done : (h : Hub D) → IsStanding moment left faults h → (r : Option BatchRecord) → LeavesOnly moment left h.journal.disk h.journal.disk (WhileKeeping h.setup.limits.journal (journal_of (state_of h)) r)
  nothing_done h s None = starts moment left h.journal.disk _ (λ image is. standing_keeps h s image is)
  nothing_done h s (Some r) = starts moment left h.journal.disk _ (λ image is. inl (standing_keeps h s image is))
