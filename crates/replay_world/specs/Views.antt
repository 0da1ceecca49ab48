-- What a machine and a world in memory stand for, and what holds of them between two steps.
use Rattle.std.specs.Prelude.{ℕ, ⊤, ◌≡◌, ◌≤◌, ◌^◌, List, Option, Some, None}
use Rattle.disk_model.specs.Memory.{DiskState, left_of, moment_of}
use Rattle.cluster_defs.specs.Journal.{Event, Journal, table_behind}
use Rattle.hub_core.specs.Answering.{FollowsBy}
use Rattle.hub_core.specs.Keeping.{Keeps}
use Rattle.hub_core.specs.State.{journal_of}
use Rattle.hub_core.specs.declared.setup.Setup.{Setup}
use Rattle.replay_world.specs.Hubs.{Hub, hub_of_state}
use Rattle.replay_world.specs.World.{World}
use Rattle.replay_world.specs.declared.machine.Machine.{Machine}
use Rattle.replay_world.specs.declared.machine.Machine.TheVariants.{Running, Lying}
use Rattle.replay_world.specs.declared.world.World as worlds

abbrev pub disk_of : Machine → DiskState
disk_of (Running desk) = desk.hub.disk
disk_of (Lying disk) = disk

abbrev pub hub_on : Machine → Option Hub
hub_on (Running desk) = Some (hub_of_state desk.hub)
hub_on (Lying disk) = None

abbrev pub view : worlds.World → World
view w = record { setup = w.setup; disk = disk_of w.machine; hub = hub_on w.machine; sessions = w.sessions.items }

-- All that a crash may leave of a disk keeps this journal with this limit.
abbrev pub KeepsWithin : (limit : ℕ) → Journal → DiskState → Type 0
KeepsWithin limit j s = (image : List ℕ) → left_of s (moment_of s) image → Keeps limit j image

-- with some limit
abbrev pub KeepsAll : Journal → DiskState → Type 0
KeepsAll j s = (limit : ℕ) × KeepsWithin limit j s

-- It keeps one with this limit.
abbrev pub KeepsOne : (limit : ℕ) → DiskState → Type 0
KeepsOne limit s = (j : Journal) × KeepsWithin limit j s

-- A disk that lies keeps a journal with the limit; so does that of a hub, always.
abbrev pub IsReadable : Setup → Machine → Type 0
IsReadable setup (Running desk) = ⊤
IsReadable setup (Lying disk) = KeepsOne setup.limits.journal disk

abbrev pub IsSetUp : Setup → Machine → Type 0
IsSetUp setup (Running desk) = desk.hub.setup ≡ setup
IsSetUp setup (Lying disk) = ⊤

-- of a machine with this set-up
pub record IsSound (setup : Setup) (machine : Machine) : Type 0 where
  pub least : setup.limits.journal ≤ 10 ^ 12
  pub set_up : IsSetUp setup machine
  pub readable : IsReadable setup machine

-- This is the journal of a machine's hub, with the table of its records, or the one that its disk keeps.
abbrev pub HasJournal : Journal → Machine → Type 0
HasJournal j (Running desk) = (journal_of desk.hub ≡ j) × (desk.hub.store.table ≡ table_behind j)
HasJournal j (Lying disk) = KeepsAll j disk

-- What was done leads from this journal to that of the machine.
abbrev pub Continues : Option Event → Journal → Machine → Type 0
Continues event j machine = (next : Journal) × FollowsBy event j next × HasJournal next machine

-- the same from the journal of the world before
abbrev pub Leads : Option Event → (old new : worlds.World) → Type 0
Leads event old new = (j : Journal) → HasJournal j old.machine → Continues event j new.machine

-- It stays that of the world before.
abbrev pub KeepsJournal : (old new : worlds.World) → Type 0
KeepsJournal old new = (j : Journal) → HasJournal j old.machine → HasJournal j new.machine

-- No growth of the disk was refused, and the machine is sound.
pub record IsWhole (w : worlds.World) : Type 0 where
  pub sound : IsSound w.setup w.machine
  pub whole : (disk_of w.machine).refused ≡ 0
