-- An opening is the one that the definition gives.
use Rattle.std.proofs.Common.{◌≡◌, ◌⊎◌, inl, inr, ℕ, ◌≤◌, Bool, true, false, List, [], length, Option, None, Some, refl, sym, ap, ap₂, subst, ◌∙◌, arith, if◌then◌else◌}
use Rattle.std.specs.Prelude.{is_some}
use Rattle.model_data.specs.declared.batch.BatchRecord.{BatchRecord}
use Rattle.disk_model.specs.Memory.{CallMade, DiskState, calls_of, left_of, moment_of, new_disk, restarted, restarted_by}
use Rattle.disk_model.specs.Disk.{Only}
use Rattle.disk_model.specs.Moments.{LeavesOnly}
use Rattle.disk_model.specs.declared.image.Image.{Image}
use Rattle.journal.specs.Mounting.{RanForFile, WhileMounting}
use Rattle.journal.specs.Plans.{RanOn, mount_plan}
use Rattle.journal.specs.Records.{front, records}
use Rattle.journal.specs.Standing.{bodies_of}
use Rattle.journal_in_memory.specs.Running.{Ran, ran}
use Rattle.journal_in_memory.proofs.Runs.{ran_is}
use Rattle.table_defs.specs.Table.{Table, after, no_rows}
use Rattle.cluster_defs.specs.Cluster.{Usage}
use Rattle.cluster_defs.specs.Journal.{Journal, none_yet}
use Rattle.hub_core.specs.Keeping.{Keeps, read_all}
use Rattle.hub_core.specs.Mounting.{Mounted, NotMounted, mount_fault}
use Rattle.hub_core.specs.Standing.{IsStanding}
use Rattle.hub_core.specs.State.{journal_of, state_of}
use Rattle.hub_core.specs.declared.fault.HubFault.{HubFault}
use Rattle.hub_core.specs.declared.fault.HubFault.TheVariants.{BadRecord, DiskFailed, NoMemory, NotAJournal, TooFull}
use Rattle.hub_core.specs.declared.hub.Hub as hubs
use Rattle.hub_core.specs.declared.mounting.NoHub.{NoHub}
use Rattle.hub_core.specs.declared.setup.Setup.{Setup}
use Rattle.hub_core.proofs.Sound.{standing_keeps}
use Rattle.replay_world.specs.Events.{opening_event}
use Rattle.replay_world.specs.Hubs.{Hub, Opened, hub_behind, hub_in, hub_of_state, opened}
use Rattle.replay_world.specs.Views.{Continues, HasJournal, KeepsWithin}
use Rattle.replay_world.specs.declared.machine.Machine.{Machine}

abbrev opened_by : Ran → Hub → Opened
opened_by r hub = record { disk = r.disk; hub = if r.all then Some hub else None }

-- the run of a mounting's plan
plan_run : (disk new : DiskState) (all : Bool) → ((file : List ℕ) × (disk.stored.bytes ≡ file) × RanOn calls_of CallMade (mount_plan file) disk new all) → new.refused ≡ 0 → ran (mount_plan disk.stored.bytes) disk ≡ record { disk = new; all = all }
plan_run disk new all (file, told, run) whole = ran_is (mount_plan disk.stored.bytes) disk new all (subst (λ (f : List ℕ). RanOn calls_of CallMade (mount_plan f) disk new all) (sym told) run) whole

-- ---- a hub is opened

module _ (setup : Setup) (disk : DiskState) (h : hubs.Hub DiskState)
    (m : Mounted (λ s. 0) (λ s. Some s.stored.bytes) moment_of left_of calls_of CallMade (λ s. s.faults) disk setup h) where
  bodies_are : records disk.stored.bytes ≡ bodies_of h.journal
  bodies_are = m.file.1.spelled.written ∙ sym m.stands.sound.spelled.written

  table_is : h.table.table ≡ after (read_all (bodies_of h.journal)) no_rows
  table_is = m.stands.sound.table

  behind_is : hub_behind (after (read_all (bodies_of h.journal)) no_rows) h.journal.end ≡ hub_of_state (state_of h)
  behind_is = ap (λ (t : Table). hub_behind t h.journal.end) (sym table_is)
      ∙ ap₂ (λ (u : List Usage) (d : Option (List ℕ)). let hub : Hub = record { store = record { table = h.table.table; usage = u; journal = h.journal.end }; doubt = d } in hub) (sym m.fresh.1) (sym m.sure)

  hub_is : hub_in disk.stored.bytes ≡ hub_of_state (state_of h)
  hub_is = ap (λ (bodies : List (List ℕ)). hub_behind (after (read_all bodies) no_rows) (length (front bodies))) bodies_are
      ∙ (ap (λ (end : ℕ). hub_behind (after (read_all (bodies_of h.journal)) no_rows) end) (sym m.stands.journal.end)
      ∙ behind_is)

  pub mounted_is : h.journal.disk.refused ≡ 0 → opened disk ≡ record { disk = h.journal.disk; hub = Some (hub_of_state (state_of h)) }
  mounted_is whole = ap₂ opened_by (plan_run disk h.journal.disk true m.ran whole) hub_is

-- ---- none is opened

module _ (setup : Setup) (disk : DiskState) (refused : NoHub DiskState)
    (n : NotMounted (λ s. 0) (λ s. Some s.stored.bytes) moment_of left_of calls_of CallMade (λ s. s.faults) disk setup refused) (whole : refused.disk.refused ≡ 0) where
  abbrev Closed : Type 0
  Closed = opened disk ≡ record { disk = refused.disk; hub = None }

  failed_is : refused.fault ≡ DiskFailed → Closed
  failed_is is = ap (λ (r : Ran). opened_by r (hub_in disk.stored.bytes))
      (plan_run disk refused.disk false (subst (λ (f : HubFault). RanForFile (λ (s : DiskState). Some s.stored.bytes) calls_of CallMade mount_plan (mount_fault f) disk refused.disk) is n.ran) whole)

  by_fault : (fault : HubFault) → refused.fault ≡ fault → (fault ≡ NoMemory → ⊥) → ((head : List ℕ) → fault ≡ NotAJournal head → ⊥) → ((k : ℕ) → fault ≡ BadRecord k → ⊥) → ((sum : ℕ) → fault ≡ TooFull sum → ⊥) → Closed
  by_fault NoMemory is memory other bad full = absurd (memory refl)
  by_fault DiskFailed is memory other bad full = failed_is is
  by_fault (NotAJournal head) is memory other bad full = absurd (other head refl)
  by_fault (BadRecord k) is memory other bad full = absurd (bad k refl)
  by_fault (TooFull sum) is memory other bad full = absurd (full sum refl)

  pub not_mounted_is : (refused.fault ≡ NoMemory → ⊥) → ((head : List ℕ) → refused.fault ≡ NotAJournal head → ⊥) → ((k : ℕ) → refused.fault ≡ BadRecord k → ⊥) → ((sum : ℕ) → refused.fault ≡ TooFull sum → ⊥) → opened disk ≡ record { disk = refused.disk; hub = None }
  not_mounted_is memory other bad full = by_fault refused.fault refl memory other bad full

-- ---- disks that keep one journal

-- a new disk keeps none yet
pub new_keeps_within : (limit : ℕ) → 8 ≤ limit → KeepsWithin limit none_yet new_disk
new_keeps_within limit room = λ image is. subst (λ (i : List ℕ). Keeps limit none_yet i) (sym (nothing image is)) none_kept where
  nothing : (image : List ℕ) → (image ≡ []) ⊎ (image ≡ []) → image ≡ []
  nothing image (inl is) = is
  nothing image (inr is) = is

  none_kept : Keeps limit none_yet []
  none_kept = record {
    held = record { short = tt; small = tt; form = inl (refl, inl (omega arith)) };
    lawful = λ k d below. absurd (omega (arith, below));
    doubt_lawful = tt;
    taken = record { taken = refl; doubt = refl };
    within = record { records = room; doubt = room };
  }

-- that of a hub keeps its journal
pub hub_keeps : (h : hubs.Hub DiskState) → IsStanding moment_of left_of (λ s. s.faults) h → KeepsWithin h.setup.limits.journal (journal_of (state_of h)) h.journal.disk
hub_keeps h stands = λ image is. standing_keeps moment_of left_of (λ s. s.faults) h stands image is

-- and a disk that a stop left what it kept before
restarted_keeps_by : (limit : ℕ) (j : Journal) (old new : DiskState) (stopped : Option Image) → old.stopped ≡ stopped → new ≡ restarted old → left_of old (moment_of old) new.stored.bytes → (is_some old.stopped ≡ true → Only new.stored.bytes (left_of new (moment_of new))) → KeepsWithin limit j old → KeepsWithin limit j new
restarted_keeps_by limit j old new None is restarts left only keeps = subst (KeepsWithin limit j) (sym (restarts ∙ ap (λ (o : Option Image). restarted_by o old) is)) keeps
restarted_keeps_by limit j old new (Some image) is restarts left only keeps =
    λ found here. subst (λ (i : List ℕ). Keeps limit j i) (sym (only (ap is_some is) found here)) (keeps new.stored.bytes left)

pub restarted_keeps : (limit : ℕ) (j : Journal) (old new : DiskState) → new ≡ restarted old → left_of old (moment_of old) new.stored.bytes → (is_some old.stopped ≡ true → Only new.stored.bytes (left_of new (moment_of new))) → KeepsWithin limit j old → KeepsWithin limit j new
restarted_keeps limit j old new restarts left only keeps = restarted_keeps_by limit j old new old.stopped refl restarts left only keeps

-- and one on which a mounting was tried
pub mounting_keeps : (limit : ℕ) (j : Journal) (old new : DiskState) → (((image : List ℕ) → left_of old (moment_of old) image → Keeps limit j image) → LeavesOnly moment_of left_of old new (WhileMounting (left_of old (moment_of old))) → LeavesOnly moment_of left_of old new (Keeps limit j))
    → LeavesOnly moment_of left_of old new (WhileMounting (left_of old (moment_of old))) → KeepsWithin limit j old → KeepsWithin limit j new
mounting_keeps limit j old new law run keeps = let kept = law keeps run in λ image is. kept.each (moment_of new) image kept.later (omega arith) is

none_found : (next : Journal) → (next.records ≡ []) ⊎ (next.records ≡ []) → next.doubt ≡ None → next ≡ none_yet
none_found next found none = ap₂ (λ (rs : List BatchRecord) (d : Option BatchRecord). let j : Journal = record { records = rs; doubt = d } in j) (elim found [ inl is ↦ is | inr is ↦ is ]) none

-- What is opened where nothing was kept has kept nothing.
pub first_journal : (m : Machine) (hub : Option Hub) → Continues (Some (opening_event hub)) none_yet m → HasJournal none_yet m
first_journal m None (next, follows, has) = subst (λ (j : Journal). HasJournal j m) (none_found next (inl follows.1.0) follows.1.1) has
first_journal m (Some hub) (next, follows, has) = subst (λ (j : Journal). HasJournal j m) (none_found next follows.1.0 follows.1.1) has
