-- What records tell of attempts and of numbers, apart from any table: how an attempt ends, which attempts of a batch
-- begin, and which numbers an owner is given.
use Rattle.std.specs.Prelude.{ℕ, ◌<◌, ⊤, Bool, List, [], ◌∷◌, flat_map, Option, Some, None, if◌then◌else◌}
use Rattle.base_names.specs.declared.id.BatchId.{BatchId}
use Rattle.model_data.specs.declared.batch.AttemptOf.{AttemptOf}
use Rattle.model_data.specs.declared.batch.BatchRecord.{BatchRecord}
use Rattle.model_data.specs.declared.batch.BatchRecord.TheVariants.{Create, Abort, Discard, Retry, Finish, Lost, Next}
use Rattle.model_data.specs.declared.batch.BatchResult.{BatchResult}
use Rattle.table_defs.specs.Names.{Owner, is_attempt, is_id, is_owner}
use Rattle.table_defs.specs.Table.{aborted, completed, failed}

-- ---- how an attempt ends

-- the status that an attempt ends with, and its result
pub record End : Type 0 where
  pub status : ℕ
  pub result : Option BatchResult

abbrev pub end_if : Bool → ℕ → Option BatchResult → List End
end_if named status result = if named then record { status = status; result = result } ∷ [] else []

abbrev pub names : AttemptOf → BatchId → ℕ → Bool
names a id attempt = is_attempt a.id a.attempt id attempt

-- the outcomes that a record gives an attempt
abbrev pub outcomes_in : AttemptOf → BatchRecord → List End
outcomes_in a (Create id attempt body) = []
outcomes_in a (Abort id attempt) = end_if (names a id attempt) aborted None
outcomes_in a (Discard id) = []
outcomes_in a (Retry id attempt) = []
outcomes_in a (Finish id attempt result) = end_if (names a id attempt) completed (Some result)
outcomes_in a (Lost items) = flat_map (λ item. end_if (names a item.id item.attempt) failed None) items
outcomes_in a (Next id) = []

abbrev pub outcomes : AttemptOf → List BatchRecord → List End
outcomes a rs = flat_map (outcomes_in a) rs

-- ---- which attempts begin, and which numbers are given

abbrev pub one_if : Bool → ℕ → List ℕ
one_if named n = if named then n ∷ [] else []

-- the numbers of the attempts at a batch that a record begins
abbrev pub begun_in : BatchId → BatchRecord → List ℕ
begun_in a (Create id attempt body) = one_if (is_id a id) attempt
begun_in a (Retry id attempt) = one_if (is_id a id) attempt
begun_in a r = []

abbrev pub attempts_begun : BatchId → List BatchRecord → List ℕ
attempts_begun a rs = flat_map (begun_in a) rs

-- the numbers of the batches that an owner gets
abbrev pub created_in : Owner → BatchRecord → List ℕ
created_in u (Create id attempt body) = one_if (is_owner u id.owner) id.number
created_in u r = []

abbrev pub numbers_given : Owner → List BatchRecord → List ℕ
numbers_given u rs = flat_map (created_in u) rs

-- each number is above the one before it, the first one above n
abbrev pub IsRisingFrom : ℕ → List ℕ → Type 0
IsRisingFrom n [] = ⊤
IsRisingFrom n (m ∷ ms) = (n < m) × IsRisingFrom m ms

abbrev pub IsRising : List ℕ → Type 0
IsRising [] = ⊤
IsRising (n ∷ ns) = IsRisingFrom n ns
