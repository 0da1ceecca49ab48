-- What a hub is to those above it.
use Rattle.std.specs.Prelude.{ℕ, List, Option, None}
use Rattle.cluster_defs.specs.Journal.{Journal}
use Rattle.cluster_defs.specs.Store.{Store}
use Rattle.hub_core.specs.Counting.{usages_in}
use Rattle.hub_core.specs.Keeping.{read_all, read_one}
use Rattle.hub_core.specs.Noting.{Noted}
use Rattle.hub_core.specs.declared.hub.Hub.{Hub}
use Rattle.hub_core.specs.declared.setup.Setup.{Setup}
use Rattle.journal.specs.Standing.{bodies_of, doubt_of}

pub record State (D : Type 0) : Type 0 where
  pub disk : D
  -- the bodies of its journal, and the one in doubt
  pub bodies : List (List ℕ)
  pub doubt : Option (List ℕ)
  pub store : Store
  -- since mounting
  pub history : List Noted
  pub setup : Setup
  -- the bodies at mounting, and the disk's count of faults then
  pub start : List (List ℕ)
  pub begun : ℕ

abbrev pub state_of : {D : Type 0} → Hub D → State D
state_of h = record {
  disk = h.journal.disk;
  bodies = bodies_of h.journal;
  doubt = doubt_of h.journal;
  store = record { table = h.table.table; usage = usages_in h.usage.items; journal = h.journal.end };
  history = h.history.items;
  setup = h.setup;
  start = h.start.value.items;
  begun = h.begun;
}

-- the records that were acknowledged since the empty disk, and the one in doubt
abbrev pub journal_of : {D : Type 0} → State D → Journal
journal_of s = record { records = read_all s.bodies; doubt = read_one s.doubt }

-- the journal as it was when mounting was done
abbrev pub start_of : {D : Type 0} → State D → Journal
start_of s = record { records = read_all s.start; doubt = None }
