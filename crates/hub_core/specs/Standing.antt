-- What holds of a hub between its calls.
use Rattle.std.specs.Prelude.{◌≡◌, ◌≤◌, ◌+◌, ◌^◌, ◌++◌, ℕ, List, [], length, option_to_list}
use Rattle.cluster_defs.specs.Ends.{end_of}
use Rattle.cluster_defs.specs.Journal.{AreAllTaken, table_behind}
use Rattle.cluster_defs.specs.Life.{Brings}
use Rattle.cluster_defs.specs.Refusals.{reserve}
use Rattle.cluster_defs.specs.Site.{Site}
use Rattle.cluster_defs.specs.Store.{Store}
use Rattle.hub_core.specs.Keeping.{AreSpelled, IsSpelled, space_of}
use Rattle.hub_core.specs.Noting.{AreStored, faults_behind, store_behind, store_events}
use Rattle.hub_core.specs.Sites.{site_of}
use Rattle.hub_core.specs.State.{State, journal_of, start_of, state_of}
use Rattle.hub_core.specs.declared.hub.Hub.{Hub}
use Rattle.journal.specs.Records.{front}
use Rattle.journal.specs.Standing.{Stands}
use Rattle.model_data.specs.declared.batch.BatchBody.{BatchBody}
use Rattle.model_data.specs.declared.batch.BatchResult.{BatchResult}

-- the store when mounting was done: nobody has asked yet
abbrev pub start_store : {D : Type 0} → Site → State D → Store
start_store k s = record { table = table_behind (start_of s); usage = []; journal = end_of k (start_of s).records }

-- Its history is one of its store, from mounting on: each entry is a step, what they brought is its journal, and where they end is
-- its store.
pub record IsItsHistory {D : Type 0} (k : Site) (faults : ℕ) (s : State D) : Type 0 where
  pub legal : AreStored k s.begun (start_store k s) s.history
  pub behind : s.store ≡ store_behind k (start_store k s) s.history
  pub brought : Brings (store_events k (start_store k s) s.history) (start_of s) (journal_of s)
  pub counted : faults_behind s.begun s.history ≤ faults

-- The bodies of its journal are the spellings of its records, each of which is taken, and its table is theirs. In the journal there
-- is room for the outcomes of all that goes on, with the record in doubt too. The history is its store's, whatever plain results are.
pub record IsSound {D : Type 0} (faults : ℕ) (s : State D) : Type 0 where
  pub spelled : AreSpelled (journal_of s).records s.bodies
  pub doubtful : IsSpelled (journal_of s).doubt s.doubt
  pub taken : AreAllTaken (journal_of s)
  pub table : s.store.table ≡ table_behind (journal_of s)
  pub end : s.store.journal ≡ length (front s.bodies)
  pub least : s.setup.limits.journal ≤ 10 ^ 12
  pub fits : s.store.journal + reserve s.store.table ≤ s.setup.limits.journal
  pub doubt_fits : space_of ((journal_of s).records ++ option_to_list (journal_of s).doubt) ≤ s.setup.limits.journal
  pub history : (plain : BatchBody → BatchResult) → IsItsHistory (site_of plain s.setup) faults s

-- A hub between calls: what a crash may leave of it is what its journal says.
pub record IsStanding {D : Type 0} (moment : D → ℕ) (left : D → ℕ → List ℕ → Type 0) (faults : D → ℕ) (h : Hub D) : Type 0 where
  pub journal : Stands moment left h.journal
  pub limit : h.journal.limit ≡ h.setup.limits.journal
  pub sound : IsSound (faults h.journal.disk) (state_of h)
