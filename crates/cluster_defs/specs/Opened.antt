-- A cluster as it is opened from a table.
use Rattle.std.specs.Prelude.{ℕ, zero, suc, List, [], ◌∷◌, filter}
use Rattle.base_names.specs.declared.node.NodeState.TheVariants.{Alive}
use Rattle.base_names.specs.declared.node.Waiter.TheVariants as waits
use Rattle.model_data.specs.declared.batch.BatchRow.{BatchRow}
use Rattle.table_defs.specs.Table.{Table}
use Rattle.cluster_defs.specs.Cluster.{Cluster, Node, Waiting}
use Rattle.cluster_defs.specs.Listing.{by_id, is_going_on}
use Rattle.cluster_defs.specs.Placement.{enqueue, place, settled}
use Rattle.cluster_defs.specs.Site.{Site}

-- so many nodes, numbered from this one on
abbrev pub nodes_from : Site → ℕ → ℕ → List Node
nodes_from k first zero = []
nodes_from k first (suc n) = record { node = record { 0 = first }; state = Alive; limit = k.setup.limit; hard = k.setup.hard } ∷ nodes_from k (suc first) n

abbrev pub all_waiting : List BatchRow → List Waiting → List Waiting
all_waiting [] ws = ws
all_waiting (row ∷ rows) ws = all_waiting rows (enqueue record { waiter = waits.Batch row.id row.attempt; priority = row.body.params.priority } ws)

-- before the first placing: all that is submitted waits, those of one priority by ID
abbrev pub mounted : Site → Table → ℕ → Cluster
mounted k t end = record {
  table = t;
  jobs = [];
  placed = [];
  taken = [];
  given = [];
  usage = [];
  waiting = all_waiting (by_id (filter is_going_on t.rows)) [];
  nodes = nodes_from k 1 k.setup.nodes;
  journal = end;
}

abbrev pub opened : Site → Table → ℕ → Cluster
opened k t end = let c = mounted k t end in settled (place c) c
