-- What is done to a cluster, and what a worker is answered.
use Rattle.std.specs.Prelude.{ℕ, Option}
use Rattle.base_names.specs.declared.id.BatchId.{BatchId}
use Rattle.base_names.specs.declared.seat.Seat.{Seat}
use Rattle.model_data.specs.declared.batch.BatchResult.{BatchResult}
use Rattle.cluster_defs.specs.Asks.{Ask}

pub data Deed : Type 0 where
  Asked : Seat → Ask → Deed
  -- this worker took an attempt
  Took : ℕ → BatchId → ℕ → Deed
  -- an attempt's result was handed in
  Finished : BatchId → ℕ → BatchResult → Deed
  -- an attempt was given back without one
  Left : BatchId → ℕ → Deed

-- what a worker is answered that hands an attempt in, or gives it back
pub data FinishReply : Type 0 where
  Kept : FinishReply
  -- the attempt has ended before: the batch's status, where the batch is there
  Late : Option ℕ → FinishReply
  Back : FinishReply
  -- the disk failed: its counts of faults before and behind
  Disk : ℕ → ℕ → FinishReply

-- the disk's counts of faults before and behind a deed
pub record Faults : Type 0 where
  pub before : ℕ
  pub after : ℕ
