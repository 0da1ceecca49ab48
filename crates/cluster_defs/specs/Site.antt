-- Where a cluster runs: its set-up, and what only crates above know.
use Rattle.std.specs.Prelude.{ℕ}
use Rattle.model_data.specs.declared.batch.BatchBody.{BatchBody}
use Rattle.model_data.specs.declared.batch.BatchRecord.{BatchRecord}
use Rattle.model_data.specs.declared.batch.BatchResult.{BatchResult}
use Rattle.model_data.specs.declared.model.Model.{Model}

pub record Limits : Type 0 where
  -- the counted commands of an owner
  pub commands : ℕ
  -- the bytes of the models that an owner keeps
  pub bytes : ℕ
  -- the bytes of the journal
  pub journal : ℕ

-- how many nodes there are, the limits that each begins with, and those of owners and journal
pub record Setup : Type 0 where
  pub nodes : ℕ
  pub limit : ℕ
  pub hard : ℕ
  pub limits : Limits

pub record Site : Type 0 where
  pub setup : Setup
  -- the bytes of a record's body
  pub record_bytes : BatchRecord → ℕ
  -- the bytes of a model in a body
  pub model_bytes : Model → ℕ
  -- what the plain solver finds
  pub plain : BatchBody → BatchResult
