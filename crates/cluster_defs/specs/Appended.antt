-- What a command appends to the journal.
use Rattle.std.specs.Prelude.{ℕ, ◌+◌, List, [], ◌∷◌, Option, Some, None}
use Rattle.base_names.specs.declared.id.BatchId.{BatchId}
use Rattle.base_names.specs.declared.seat.Seat.{Seat}
use Rattle.model_data.specs.declared.batch.AttemptOf.{AttemptOf}
use Rattle.model_data.specs.declared.batch.BatchRecord.{BatchRecord}
use Rattle.model_data.specs.declared.batch.BatchRecord.TheVariants as is
use Rattle.model_data.specs.declared.batch.BatchRow.{BatchRow}
use Rattle.table_defs.specs.Names.{Owner}
use Rattle.table_defs.specs.Table.{Table, greatest, row_of}
use Rattle.cluster_defs.specs.Asks as asks
use Rattle.cluster_defs.specs.Asks.{Ask}
use Rattle.cluster_defs.specs.Cluster.{Running, attempts_at}

abbrev pub attempt_in : Option BatchRow → ℕ
attempt_in None = 0
attempt_in (Some row) = row.attempt

-- the next batch of an owner
abbrev pub next_id : Owner → Table → BatchId
next_id owner t = record { owner = owner; number = greatest owner t + 1 }

-- All that run on a node end by one record, and where none runs there is none.
abbrev pub lost_with : List AttemptOf → Option BatchRecord
lost_with [] = None
lost_with (item ∷ items) = Some (is.Lost (item ∷ items))

-- none where it appends nothing
abbrev pub record_of : Table → List Running → Seat → Ask → Option BatchRecord
record_of t placed seat (asks.Create body) = Some (is.Create (next_id seat.owner t) 1 body)
record_of t placed seat (asks.Abort id) = Some (is.Abort id (attempt_in (row_of id t)))
record_of t placed seat (asks.Discard id) = Some (is.Discard id)
record_of t placed seat (asks.Retry id) = Some (is.Retry id (attempt_in (row_of id t) + 1))
record_of t placed seat (asks.Fail node) = lost_with (attempts_at node placed)
record_of t placed seat ask = None
