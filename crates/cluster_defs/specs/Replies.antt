-- What is replied to a seat. `Reply` of this crate has the three cases that are told today.
use Rattle.std.specs.Prelude.{ℕ, List, Option}
use Rattle.base_names.specs.declared.id.BatchId.{BatchId}
use Rattle.base_names.specs.declared.node.JobLine.{JobLine}
use Rattle.base_names.specs.declared.node.NodeLine.{NodeLine}
use Rattle.base_names.specs.declared.node.NodeNo.{NodeNo}
use Rattle.base_names.specs.declared.refusal.Refusal.{Refusal}
use Rattle.model_data.specs.declared.batch.BatchLine.{BatchLine}
use Rattle.model_data.specs.declared.batch.BatchRow.{BatchRow}
use Rattle.cluster_defs.specs.declared.reply.Reply as now
use Rattle.cluster_defs.specs.declared.reply.Reply.TheVariants as cases

pub data Reply : Type 0 where
  Done : Reply
  -- the job's number, and the node where it runs
  Job : ℕ → Option NodeNo → Reply
  Made : BatchId → Reply
  Status : BatchId → ℕ → Reply
  Row : BatchRow → Reply
  Rows : List BatchLine → Reply
  Nodes : List NodeLine → Reply
  Jobs : List JobLine → Reply
  Refused : Refusal → Reply

abbrev pub told_today : now.Reply → Reply
told_today (cases.Made id) = Made id
told_today (cases.Status id status) = Status id status
told_today (cases.Refused refusal) = Refused refusal
