-- A hub that was just opened, and the faults of an opening.
use Rattle.std.proofs.Common.{◌≡◌, refl, sym, ◌∙◌, ap, subst, arith, ℕ, ◌+◌, ◌≤◌, ◌^◌, List, [], ◌∷◌, length, map, Option, None, Some, length-append}
use Rattle.std.specs.Prelude.{IfSome, sum_by}
use Rattle.std.proofs.lemmas.List.{append-nil}
use Rattle.std.proofs.lemmas.List.Sums.{sum_by-cons}
use Rattle.cluster_defs.specs.Cluster.{Usage}
use Rattle.cluster_defs.specs.Journal.{Journal}
use Rattle.cluster_defs.specs.Life.{Brings}
use Rattle.cluster_defs.specs.Refusals.{reserve}
use Rattle.cluster_defs.specs.Store.{Store}
use Rattle.disk_model.specs.Calls.{DiskCall}
use Rattle.disk_model.specs.Moments.{LeavesOnly}
use Rattle.hub_core.proofs.Lists.{nothing_more}
use Rattle.hub_core.proofs.Within.{nothing_within, spelled_within}
use Rattle.hub_core.specs.Counting.{usages_in}
use Rattle.hub_core.specs.Folding.{IsFold, IsOfBodies}
use Rattle.hub_core.specs.Keeping.{AreSpelled, IsSpelled, Recovers, read_all, read_one}
use Rattle.hub_core.specs.Mounting.{IsBodiesFault, IsFileFault, Mounted, NotMounted, mount_fault}
use Rattle.hub_core.specs.Noting.{AreStored, Noted, faults_behind, store_behind, store_events}
use Rattle.hub_core.specs.Sites.{site_of}
use Rattle.hub_core.specs.Standing.{IsItsHistory, IsSound, start_store}
use Rattle.hub_core.specs.State.{State, journal_of, start_of, state_of}
use Rattle.hub_core.specs.declared.fault.HubFault.{HubFault}
use Rattle.hub_core.specs.declared.fault.HubFault.TheVariants.{BadRecord, DiskFailed, NoMemory, NotAJournal, TooFull}
use Rattle.hub_core.specs.declared.hub.Hub.{Hub}
use Rattle.hub_core.specs.declared.setup.Setup.{Setup}
use Rattle.journal.specs.Mounting.{HasHeader, RanForFile, WhileMounting}
use Rattle.journal.specs.Plans.{Step, mount_plan}
use Rattle.journal.specs.Records.{front, header, opened, records}
use Rattle.journal.specs.Standing.{Stands, bodies_of, doubt_of}
use Rattle.model_data.specs.declared.batch.BatchBody.{BatchBody}
use Rattle.model_data.specs.declared.batch.BatchRecord.{BatchRecord}
use Rattle.model_data.specs.declared.batch.BatchResult.{BatchResult}
use Rattle.rec_format.specs.Records.{record_len, record_write}
use Rattle.table_defs.specs.Table.{Table, after, no_rows}

-- ---- where the journal ends

opened_len : (rs : List BatchRecord) → length (opened (map record_write rs)) ≡ sum_by (λ r. 5 + record_len r) rs
opened_len [] = refl
opened_len (r ∷ rs) = omega (arith, sum_by-cons (λ (x : BatchRecord). 5 + record_len x) r rs, length-append (record_write r) (opened (map record_write rs)), opened_len rs)

front_len : (rs : List BatchRecord) → length (front (map record_write rs)) ≡ 8 + sum_by (λ r. 5 + record_len r) rs
front_len rs = omega (arith, length-append header (opened (map record_write rs)), opened_len rs)

spelled_len : (rs : List BatchRecord) (bodies : List (List ℕ)) → AreSpelled rs bodies → length (front bodies) ≡ 8 + sum_by (λ r. 5 + record_len r) rs
spelled_len rs bodies is = ap (λ (bs : List (List ℕ)). length (front bs)) is.written ∙ front_len rs

-- ---- the hub

abbrev store_of : Table → List Usage → ℕ → Store
store_of t used end = record { table = t; usage = used; journal = end }

same_store : (t u : Table) (used now : List Usage) (end place : ℕ) → t ≡ u → used ≡ now → end ≡ place → store_of t used end ≡ store_of u now place
same_store t u used now end place a b c = ap (λ (x : Table). store_of x used end) a ∙ (ap (λ (x : List Usage). store_of u x end) b ∙ ap (λ (x : ℕ). store_of u now x) c)

abbrev journal_with : List BatchRecord → Option BatchRecord → Journal
journal_with rs doubt = record { records = rs; doubt = doubt }

same_journal : (rs ss : List BatchRecord) (doubt now : Option BatchRecord) → rs ≡ ss → doubt ≡ now → journal_with rs doubt ≡ journal_with ss now
same_journal rs ss doubt now a b = ap (λ (x : List BatchRecord). journal_with x doubt) a ∙ ap (λ (x : Option BatchRecord). journal_with ss x) b

module _ {D : Type 0} (faults : ℕ) (s : State D) (sure : s.doubt ≡ None) (start : s.start ≡ s.bodies) (none : s.history ≡ []) (unused : s.store.usage ≡ []) (end : s.store.journal ≡ length (front s.bodies)) (f : IsFold s.bodies s.store.table) where
  fresh_store : (plain : BatchBody → BatchResult) → s.store ≡ start_store (site_of plain s.setup) s
  fresh_store plain =
      let began : read_all s.bodies ≡ read_all s.start = ap read_all (sym start) in
      same_store s.store.table _ s.store.usage [] s.store.journal _ (f.table ∙ ap (λ (rs : List BatchRecord). after rs no_rows) began) unused
      (end ∙ (spelled_len (read_all s.bodies) s.bodies f.spelled ∙ ap (λ (rs : List BatchRecord). 8 + sum_by (λ r. 5 + record_len r) rs) began))

  fresh_history : (plain : BatchBody → BatchResult) → s.begun ≤ faults → IsItsHistory (site_of plain s.setup) faults s
  fresh_history plain counted =
      let k = site_of plain s.setup in
      record {
        legal = subst (λ (es : List Noted). AreStored k s.begun (start_store k s) es) (sym none) tt;
        behind = fresh_store plain ∙ ap (λ (es : List Noted). store_behind k (start_store k s) es) (sym none);
        brought = subst (λ (es : List Noted). Brings (store_events k (start_store k s) es) (start_of s) (journal_of s)) (sym none)
            (same_journal (read_all s.bodies) (read_all s.start) (read_one s.doubt) None (ap read_all (sym start)) (ap read_one sure));
        counted = subst (λ (es : List Noted). faults_behind s.begun es ≤ faults) (sym none) counted;
      }

  fresh_sound : s.begun ≤ faults → s.setup.limits.journal ≤ 10 ^ 12 → s.store.journal + reserve s.store.table ≤ s.setup.limits.journal → IsSound faults s
  fresh_sound counted least fits = record {
    spelled = f.spelled;
    doubtful = subst (λ (d : Option (List ℕ)). IsSpelled (read_one d) d) (sym sure) (record { written = refl; lawful = tt });
    taken = record { taken = f.taken; doubt = nothing_more (read_all s.bodies) (read_one s.doubt) (ap read_one sure) f.taken };
    table = f.table;
    end = end;
    least = least;
    fits = fits;
    doubt_fits = nothing_within s.setup.limits.journal (read_all s.bodies) (read_one s.doubt) (ap read_one sure) (spelled_within s.setup.limits.journal (read_all s.bodies) s.bodies s.store.table s.store.journal end f.spelled f.table fits);
    history = λ plain. fresh_history plain counted;
  }

-- what the file recovers to
found_file : (seen : Option (List ℕ)) (bodies bodies_now : List (List ℕ)) (t : Table) → bodies_now ≡ bodies → IsFold bodies t → IfSome seen (λ file. HasHeader file × (bodies ≡ records file)) → IfSome seen (λ file. HasHeader file × Recovers (read_all bodies_now) file)
found_file None bodies bodies_now t same f is = tt
found_file (Some file) bodies bodies_now t same f is =
    let now : read_all bodies_now ≡ read_all bodies = ap read_all same in
    (is.0, subst (λ (rs : List BatchRecord). Recovers rs file) (sym now) (record { spelled = subst (λ (bs : List (List ℕ)). AreSpelled (read_all bodies) bs) is.1 f.spelled; taken = f.taken }))

-- ---- faults

bodies_file : (limit : ℕ) (fault : HubFault) (bodies : List (List ℕ)) (file : List ℕ) → IsOfBodies fault → IsBodiesFault limit fault bodies → HasHeader file → bodies ≡ records file → IsFileFault limit fault file
bodies_file limit NoMemory bodies file of is head same = tt
bodies_file limit DiskFailed bodies file of is head same = absurd of
bodies_file limit (NotAJournal wrong) bodies file of is head same = absurd of
bodies_file limit (BadRecord k) bodies file of is head same = (head, subst (λ (bs : List (List ℕ)). IsBodiesFault limit (BadRecord k) bs) same is)
bodies_file limit (TooFull sum) bodies file of is head same = (head, subst (λ (bs : List (List ℕ)). IsBodiesFault limit (TooFull sum) bs) same is)

bodies_seen : (seen : Option (List ℕ)) (limit : ℕ) (fault : HubFault) (bodies : List (List ℕ)) → IsOfBodies fault → IsBodiesFault limit fault bodies → IfSome seen (λ file. HasHeader file × (bodies ≡ records file)) → IfSome seen (IsFileFault limit fault)
bodies_seen None limit fault bodies of is told = tt
bodies_seen (Some file) limit fault bodies of is told = bodies_file limit fault bodies file of is told.0 told.1

not_failed : (fault : HubFault) → IsOfBodies fault → fault ≡ DiskFailed → ⊥
not_failed NoMemory of is = cc
not_failed DiskFailed of is = absurd of
not_failed (NotAJournal head) of is = absurd of
not_failed (BadRecord k) of is = cc
not_failed (TooFull sum) of is = cc

module _ {D : Type 0} (seen : D → Option (List ℕ)) (calls : D → Option (List DiskCall)) (makes : D → DiskCall → D → Type 0) (plan : List ℕ → List Step) (old new : D) where
  -- the calls were all made, whatever the bodies are
  ran_bodies : (fault : HubFault) → IsOfBodies fault → RanForFile seen calls makes plan None old new → RanForFile seen calls makes plan (mount_fault fault) old new
  ran_bodies NoMemory of ran = (ran.0, ran.1, (plan ran.0, [], sym (append-nil (plan ran.0)), ran.2))
  ran_bodies DiskFailed of ran = absurd of
  ran_bodies (NotAJournal head) of ran = absurd of
  ran_bodies (BadRecord k) of ran = ran
  ran_bodies (TooFull sum) of ran = ran

-- ---- an opening

module _ {D : Type 0} (name : D → ℕ) (seen : D → Option (List ℕ)) (moment : D → ℕ) (left : D → ℕ → List ℕ → Type 0) (calls : D → Option (List DiskCall)) (makes : D → DiskCall → D → Type 0) (faults : D → ℕ) (disk new : D) (setup : Setup) (bodies : List (List ℕ))
    (told : IfSome (seen disk) (λ file. HasHeader file × (bodies ≡ records file))) (run : LeavesOnly moment left disk new (WhileMounting (left disk (moment disk)))) (ran : RanForFile seen calls makes mount_plan None disk new) (steady : faults new ≡ faults disk) (same : name new ≡ name disk) where
  -- the bodies are no table's, or don't fit
  pub bodies_refused : (back : D) (fault : HubFault) → back ≡ new → IsOfBodies fault → IsBodiesFault setup.limits.journal fault bodies → NotMounted name seen moment left calls makes faults disk setup (record { disk = back; fault = fault })
  bodies_refused back fault is of why = subst (λ (d : D). NotMounted name seen moment left calls makes faults disk setup (record { disk = d; fault = fault })) (sym is) (record {
    file = bodies_seen (seen disk) setup.limits.journal fault bodies of why told;
    any_moment = run;
    ran = ran_bodies seen calls makes mount_plan disk new fault of ran;
    later = omega (arith, steady);
    failed = λ is_failed. absurd (not_failed fault of is_failed);
    steady = λ other. steady;
    same = same;
  })

  pub mounted : (h : Hub D) → h.journal.disk ≡ new → Stands moment left h.journal → bodies_of h.journal ≡ bodies → doubt_of h.journal ≡ None → h.journal.limit ≡ setup.limits.journal → h.setup ≡ setup → h.start.value.items ≡ bodies → h.usage.items ≡ [] → h.history.items ≡ []
      → h.begun ≡ faults h.journal.disk → IsFold bodies h.table.table → h.journal.end + reserve h.table.table ≤ setup.limits.journal → setup.limits.journal ≤ 10 ^ 12 → Mounted name seen moment left calls makes faults disk setup h
  mounted h is stands held sure limit set start unused none begun f fits least =
      let here : (d : D) → d ≡ new → (faults d ≡ faults disk) × ((name d ≡ name disk) × (LeavesOnly moment left disk d (WhileMounting (left disk (moment disk))) × RanForFile seen calls makes mount_plan None disk d)) =
      λ d as_new. subst (λ (x : D). (faults x ≡ faults disk) × ((name x ≡ name disk) × (LeavesOnly moment left disk x (WhileMounting (left disk (moment disk))) × RanForFile seen calls makes mount_plan None disk x))) (sym as_new) (steady, (same, (run, ran))) in
      let now = here h.journal.disk is in
      let unread : usages_in h.usage.items ≡ [] = ap usages_in unused in
      let journal_limit : setup.limits.journal ≡ h.setup.limits.journal = ap (λ (x : Setup). x.limits.journal) (sym set) in
      record {
        stands = record {
          journal = stands;
          limit = limit ∙ journal_limit;
          sound = fresh_sound (faults h.journal.disk) (state_of h) sure (start ∙ sym held) none unread stands.end (subst (λ (bs : List (List ℕ)). IsFold bs h.table.table) (sym held) f)
              (omega (arith, begun)) (subst (λ (n : ℕ). n ≤ 10 ^ 12) journal_limit least) (subst (λ (n : ℕ). h.journal.end + reserve h.table.table ≤ n) journal_limit fits);
        };
        setup_is = set;
        sure = sure;
        start = start ∙ sym held;
        fresh = (none, unread);
        begun = begun ∙ now.0;
        file = found_file (seen disk) bodies (bodies_of h.journal) h.table.table held f told;
        any_moment = now.1.1.0;
        ran = now.1.1.1;
        steady = now.0;
        same = now.1.0;
      }
