-- Lists of records at hand.
use Rattle.std.proofs.Common.{◌≡◌, refl, ℕ, [], ◌∷◌, List, Option, Some, None, codes, map}
use Rattle.base_names.specs.declared.id.BatchId.{BatchId}
use Rattle.base_names.specs.declared.refusal.Refusal.{Refusal}
use Rattle.base_names.specs.declared.refusal.Refusal.TheVariants.{BATCH, BATCHSTATE}
use Rattle.model_data.specs.declared.batch.AttemptOf.{AttemptOf}
use Rattle.model_data.specs.declared.batch.BatchBody.{BatchBody}
use Rattle.model_data.specs.declared.batch.BatchRecord.{BatchRecord}
use Rattle.model_data.specs.declared.batch.BatchRecord.TheVariants.{Create, Abort, Discard, Retry, Finish, Lost, Next}
use Rattle.model_data.specs.declared.batch.BatchResult.{BatchResult}
use Rattle.model_data.specs.declared.batch.BatchRow.{BatchRow}
use Rattle.model_data.specs.declared.model.Direction.TheVariants.{Minimize}
use Rattle.model_data.specs.Params.{usual_params}
use Rattle.frac128.specs.Fraction.{zero_value}
use Rattle.table_defs.specs.Names.{is_id, is_owner}
use Rattle.table_defs.specs.Outcomes.{outcomes}
use Rattle.table_defs.specs.Owned.{records_of}
use Rattle.table_defs.specs.Table.{aborted, after, completed, failed, greatest, no_rows, submitted}
use Rattle.table_defs.specs.Taken.{refusal}

abbrev body : BatchBody
body = record { model = record { direction = Minimize; constant = zero_value; vars = []; rows = [] }; params = usual_params }

abbrev found : BatchResult
found = record { outcome = record { status = 2; pivots = 0; nodes = 1; work = 0; point = None; wide = None }; cert = None }

abbrev ada : ℕ → BatchId
ada n = record { owner = codes "ada"; number = n }

abbrev bob : ℕ → BatchId
bob n = record { owner = codes "bob"; number = n }

abbrev attempt : BatchId → ℕ → AttemptOf
attempt id n = record { id = id; attempt = n }

abbrev create : BatchId → BatchRecord
create id = Create id 1 body

-- A row without its body: what a listing and a status show of it.
record Seen : Type 0 where
  id : BatchId
  status : ℕ
  attempt : ℕ
  result : Option BatchResult

abbrev seen : BatchRow → Seen
seen row = record { id = row.id; status = row.status; attempt = row.attempt; result = row.result }

abbrev row : BatchId → ℕ → ℕ → Option BatchResult → Seen
row id status n result = record { id = id; status = status; attempt = n; result = result }

abbrev rows : List BatchRecord → List Seen
rows rs = map seen (after rs no_rows).rows

-- whether the last record is taken behind the others
abbrev refused : List BatchRecord → BatchRecord → Option Refusal
refused rs r = refusal r (after rs no_rows)

-- both owners begin with 1, and a number above the greatest may be left out
numbers : (refused [] (create (ada 1)) ≡ None) × (refused (create (ada 1) ∷ []) (create (bob 1)) ≡ None) × (refused (create (ada 1) ∷ []) (create (ada 1)) ≡ Some BATCH) × (refused (create (ada 1) ∷ []) (create (ada 3)) ≡ None) × (refused (create (ada 3) ∷ []) (create (ada 2)) ≡ Some BATCH) × (refused [] (create (ada 0)) ≡ Some BATCH)
unfolding is_owner is_id
numbers = (refl, refl, refl, refl, refl, refl)

-- the number of a batch that is gone is not given again
used : (refused (create (ada 1) ∷ Abort (ada 1) 1 ∷ Discard (ada 1) ∷ []) (create (ada 1)) ≡ Some BATCH) × (rows (create (ada 1) ∷ Abort (ada 1) 1 ∷ Discard (ada 1) ∷ create (ada 2) ∷ []) ≡ row (ada 2) submitted 1 None ∷ [])
unfolding is_owner is_id
used = (refl, refl)

-- a Next may repeat the greatest number, and a Create may not
next : (refused (Next (ada 7) ∷ []) (Next (ada 7)) ≡ None) × (refused (Next (ada 7) ∷ []) (Next (ada 6)) ≡ Some BATCH) × (refused (Next (ada 7) ∷ []) (create (ada 7)) ≡ Some BATCH) × (refused (Next (ada 7) ∷ []) (create (ada 8)) ≡ None) × (greatest (codes "bob") (after (Next (ada 7) ∷ []) no_rows) ≡ 0)
unfolding is_owner is_id
next = (refl, refl, refl, refl, refl)

-- one batch through an abort and a retry
abbrev retried : List BatchRecord
retried = create (ada 1) ∷ Abort (ada 1) 1 ∷ Retry (ada 1) 2 ∷ []

abort_and_retry : (rows retried ≡ row (ada 1) submitted 2 None ∷ []) × (refused retried (Finish (ada 1) 1 found) ≡ Some (BATCHSTATE submitted)) × (refused retried (Abort (ada 1) 1) ≡ Some (BATCHSTATE submitted)) × (refused retried (Finish (ada 1) 2 found) ≡ None) × (refused retried (Retry (ada 1) 3) ≡ Some (BATCHSTATE submitted)) × (refused retried (Discard (ada 1)) ≡ Some (BATCHSTATE submitted))
unfolding is_owner is_id
abort_and_retry = (refl, refl, refl, refl, refl, refl)

-- what a retry begins has no result and the next number, wherever the batch stands among others
begins_anew : (rows (create (ada 1) ∷ create (ada 2) ∷ Lost (attempt (ada 1) 1 ∷ []) ∷ Retry (ada 1) 2 ∷ []) ≡ row (ada 1) submitted 2 None ∷ row (ada 2) submitted 1 None ∷ []) × (refused (create (ada 1) ∷ Abort (ada 1) 1 ∷ []) (Retry (ada 1) 1) ≡ Some (BATCHSTATE aborted)) × (refused (create (ada 1) ∷ Abort (ada 1) 1 ∷ []) (Retry (ada 1) 3) ≡ Some (BATCHSTATE aborted))
unfolding is_owner is_id
begins_anew = (refl, refl, refl)

-- what is completed stays so until it is discarded
completes : (rows (create (ada 1) ∷ Finish (ada 1) 1 found ∷ []) ≡ row (ada 1) completed 1 (Some found) ∷ []) × (refused (create (ada 1) ∷ Finish (ada 1) 1 found ∷ []) (Abort (ada 1) 1) ≡ Some (BATCHSTATE completed)) × (refused (create (ada 1) ∷ Finish (ada 1) 1 found ∷ []) (Retry (ada 1) 2) ≡ Some (BATCHSTATE completed)) × (refused (create (ada 1) ∷ Finish (ada 1) 1 found ∷ []) (Finish (ada 1) 1 found) ≡ Some (BATCHSTATE completed)) × (refused (create (ada 1) ∷ Finish (ada 1) 1 found ∷ []) (Discard (ada 1)) ≡ None) × (refused (create (ada 1) ∷ Abort (ada 1) 1 ∷ []) (Finish (ada 1) 1 found) ≡ Some (BATCHSTATE aborted))
unfolding is_owner is_id
completes = (refl, refl, refl, refl, refl, refl)

-- no batch is BATCH, before any state of it
missing : (refused (create (ada 1) ∷ []) (Abort (ada 2) 1) ≡ Some BATCH) × (refused (create (ada 1) ∷ []) (Abort (bob 1) 1) ≡ Some BATCH) × (refused [] (Discard (ada 1)) ≡ Some BATCH) × (refused [] (Retry (ada 1) 2) ≡ Some BATCH) × (refused [] (Finish (ada 1) 1 found) ≡ Some BATCH)
unfolding is_owner is_id
missing = (refl, refl, refl, refl, refl)

-- A node with attempts of both owners is lost: each item in turn, and the first that is not open decides.
abbrev two : List BatchRecord
two = create (ada 1) ∷ create (bob 1) ∷ create (ada 2) ∷ Abort (ada 2) 1 ∷ []

lost_node : (rows (create (ada 1) ∷ create (bob 1) ∷ Lost (attempt (bob 1) 1 ∷ attempt (ada 1) 1 ∷ []) ∷ []) ≡ row (ada 1) failed 1 None ∷ row (bob 1) failed 1 None ∷ []) × (refused two (Lost (attempt (ada 1) 1 ∷ attempt (bob 1) 1 ∷ [])) ≡ None) × (refused two (Lost (attempt (ada 1) 1 ∷ attempt (ada 2) 1 ∷ attempt (bob 2) 1 ∷ [])) ≡ Some (BATCHSTATE aborted)) × (refused two (Lost (attempt (bob 2) 1 ∷ attempt (ada 2) 1 ∷ [])) ≡ Some BATCH) × (refused two (Lost (attempt (ada 1) 1 ∷ attempt (ada 1) 1 ∷ [])) ≡ Some (BATCHSTATE failed))
unfolding is_owner is_id
lost_node = (refl, refl, refl, refl, refl)

-- Of a Lost each owner has its own items, and where it has none, nothing.
parts : (records_of (codes "ada") (create (ada 1) ∷ create (bob 1) ∷ Lost (attempt (bob 1) 1 ∷ attempt (ada 1) 1 ∷ []) ∷ []) ≡ create (ada 1) ∷ Lost (attempt (ada 1) 1 ∷ []) ∷ []) × (records_of (codes "eve") (create (ada 1) ∷ Lost (attempt (ada 1) 1 ∷ []) ∷ []) ≡ [])
unfolding is_owner
parts = (refl, refl)

-- Each attempt has its own outcome.
abbrev aborted_then_found : List BatchRecord
aborted_then_found = create (ada 1) ∷ Abort (ada 1) 1 ∷ Retry (ada 1) 2 ∷ Finish (ada 1) 2 found ∷ []

two_outcomes : (outcomes (attempt (ada 1) 1) aborted_then_found ≡ record { status = aborted; result = None } ∷ []) × (outcomes (attempt (ada 1) 2) aborted_then_found ≡ record { status = completed; result = Some found } ∷ []) × (outcomes (attempt (ada 1) 3) aborted_then_found ≡ [])
unfolding is_owner is_id
two_outcomes = (refl, refl, refl)
