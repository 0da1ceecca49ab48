-- What holds of a cluster in every history: each submitted batch waits or runs, once, and nothing else does.
use Rattle.std.specs.Prelude.{◌≡◌, ◌≤◌, ◌==◌, Bool, true, false, List, [], ◌∷◌, filter, Option, Some, None}
use Rattle.base_names.specs.declared.id.BatchId.{BatchId}
use Rattle.base_names.specs.declared.node.Waiter.{Waiter}
use Rattle.base_names.specs.declared.node.Waiter.TheVariants as waits
use Rattle.model_data.specs.declared.batch.BatchRow.{BatchRow}
use Rattle.table_defs.specs.Names.{is_id}
use Rattle.table_defs.specs.Table.{greatest, row_of, submitted}
use Rattle.cluster_defs.specs.Cluster.{Cluster, Running, Waiting}
use Rattle.cluster_defs.specs.Step.{still_open}

abbrev pub waits_for : BatchId → Waiter → Bool
waits_for id (waits.Seat job) = false
waits_for id (waits.Batch other attempt) = is_id id other

abbrev pub placed_for : BatchId → List Running → List Running
placed_for id placed = filter (λ r. is_id id r.id) placed

abbrev pub waiting_for : BatchId → List Waiting → List Waiting
waiting_for id ws = filter (λ w. waits_for id w.waiter) ws

abbrev pub is_going : Option BatchRow → Bool
is_going None = false
is_going (Some row) = row.status == submitted

abbrev pub waits_open : Option BatchRow → Waiter → Bool
waits_open row (waits.Seat job) = false
waits_open row (waits.Batch id attempt) = still_open attempt row

-- how a batch stands, by its row and by what runs and waits of it
abbrev pub Stands : Option BatchRow → List Running → List Waiting → Type 0
Stands row [] [] = is_going row ≡ false
Stands row [] (w ∷ []) = waits_open row w.waiter ≡ true
Stands row (r ∷ []) [] = still_open r.attempt row ≡ true
Stands row (r ∷ s ∷ rs) ws = ⊥
Stands row (r ∷ []) (w ∷ ws) = ⊥
Stands row [] (w ∷ v ∷ ws) = ⊥

abbrev pub EachStands : Cluster → Type 0
EachStands c = (id : BatchId) → Stands (row_of id c.table) (placed_for id c.placed) (waiting_for id c.waiting)

pub record IsSound (c : Cluster) : Type 0 where
  pub sound : EachStands c
  -- each row's number is given
  pub numbered : (id : BatchId) (row : BatchRow) → row_of id c.table ≡ Some row → id.number ≤ greatest id.owner c.table
