-- What a command that is not refused is answered: by the state before it, and by the places that are given behind it.
use Rattle.std.specs.Prelude.{◌+◌, List, map, Option, Some, None, if◌then◌else◌}
use Rattle.base_names.specs.declared.id.BatchId.{BatchId}
use Rattle.base_names.specs.declared.node.Placed.{Placed}
use Rattle.base_names.specs.declared.node.Waiter.TheVariants as waits
use Rattle.base_names.specs.declared.refusal.Refusal.TheVariants.{NODELOST, NOJOB, BATCH}
use Rattle.base_names.specs.declared.seat.Seat.{Seat}
use Rattle.model_data.specs.declared.batch.BatchLine.{BatchLine}
use Rattle.model_data.specs.declared.batch.BatchRow.{BatchRow}
use Rattle.table_defs.specs.Owned.{rows_of}
use Rattle.table_defs.specs.Table.{Table, row_of}
use Rattle.cluster_defs.specs.Appended.{next_id}
use Rattle.cluster_defs.specs.Asks as asks
use Rattle.cluster_defs.specs.Asks.{Ask}
use Rattle.cluster_defs.specs.Cluster.{Cluster, Given, Job, job_of, jobs_given, lines}
use Rattle.cluster_defs.specs.Listing.{job_lines}
use Rattle.cluster_defs.specs.Placement.{place_among}
use Rattle.cluster_defs.specs.Replies as tells
use Rattle.cluster_defs.specs.Replies.{Reply}

-- A lost job still has the node that failed.
abbrev pub poll_reply : Option Job → Reply
poll_reply None = tells.Refused NOJOB
poll_reply (Some job) = if job.lost then elim job.node as (λ _. Reply) [ None ↦ tells.Refused NOJOB | Some node ↦ tells.Refused (NODELOST node) ] else tells.Job job.number job.node

abbrev pub status_reply : BatchId → Option BatchRow → Reply
status_reply id None = tells.Refused BATCH
status_reply id (Some row) = tells.Status id row.status

abbrev pub row_reply : Option BatchRow → Reply
row_reply None = tells.Refused BATCH
row_reply (Some row) = tells.Row row

abbrev pub batch_line : BatchRow → BatchLine
batch_line row = record { id = row.id; status = row.status }

-- to a client's command
abbrev pub reply_to : Table → List Job → List Given → List Placed → Seat → Ask → Reply
reply_to t jobs given ps seat (asks.Job priority) = let number = jobs_given seat given + 1 in tells.Job number (place_among (waits.Seat record { seat = seat; number = number }) ps)
reply_to t jobs given ps seat asks.Poll = poll_reply (job_of seat jobs)
reply_to t jobs given ps seat (asks.Create body) = tells.Made (next_id seat.owner t)
reply_to t jobs given ps seat (asks.Status id) = status_reply id (row_of id t)
reply_to t jobs given ps seat (asks.Row id) = row_reply (row_of id t)
reply_to t jobs given ps seat asks.Listing = tells.Rows (map batch_line (rows_of seat.owner t.rows))
reply_to t jobs given ps seat ask = tells.Done

-- to any command: an administrator is told of the whole cluster
abbrev pub whole_reply : Cluster → List Placed → Seat → Ask → Reply
whole_reply c ps seat asks.Nodes = tells.Nodes (lines c)
whole_reply c ps seat asks.Jobs = tells.Jobs (job_lines c)
whole_reply c ps seat ask = reply_to c.table c.jobs c.given ps seat ask
