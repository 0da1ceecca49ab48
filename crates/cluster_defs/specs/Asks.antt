-- What a seat may ask. `Ask` of this crate has the two cases that a program asks today; as it grows these are its cases, by the
-- same names.
use Rattle.std.specs.Prelude.{ℕ, ℤ}
use Rattle.base_names.specs.declared.id.BatchId.{BatchId}
use Rattle.base_names.specs.declared.node.NodeNo.{NodeNo}
use Rattle.model_data.specs.declared.batch.BatchBody.{BatchBody}
use Rattle.cluster_defs.specs.declared.ask.Ask as now
use Rattle.cluster_defs.specs.declared.ask.Ask.TheVariants as cases

pub data Ask : Type 0 where
  -- a job of this priority
  Job : ℤ → Ask
  Poll : Ask
  Leave : Ask
  Create : BatchBody → Ask
  Status : BatchId → Ask
  Row : BatchId → Ask
  Listing : Ask
  Abort : BatchId → Ask
  Discard : BatchId → Ask
  Retry : BatchId → Ask
  -- these are for administrators
  Nodes : Ask
  Jobs : Ask
  -- a node's limit, and its hard one
  Limits : NodeNo → ℕ → ℕ → Ask
  Drain : NodeNo → Ask
  Resume : NodeNo → Ask
  Fail : NodeNo → Ask
  -- the number of a seat, and that of a job of it
  AbortJob : ℕ → ℕ → Ask

abbrev pub asked_today : now.Ask → Ask
asked_today (cases.Create body) = Create body
asked_today (cases.Status id) = Status id
