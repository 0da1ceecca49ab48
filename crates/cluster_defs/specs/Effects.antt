-- What a command that is not refused changes, field by field. What is done to jobs and attempts doesn't look at the cluster, so
-- that an owner's own part is changed by the same definitions.
use Rattle.std.specs.Prelude.{ℕ, ◌+◌, Bool, true, false, not, ℤ, List, [], ◌∷◌, ◌++◌, filter, Option, Some, None, if◌then◌else◌}
use Rattle.base_names.specs.declared.id.BatchId.{BatchId}
use Rattle.base_names.specs.declared.node.NodeNo.{NodeNo}
use Rattle.base_names.specs.declared.node.NodeState.TheVariants as state
use Rattle.base_names.specs.declared.node.Waiter.TheVariants as waits
use Rattle.base_names.specs.declared.seat.Seat.{Seat}
use Rattle.model_data.specs.declared.batch.BatchRecord.{BatchRecord}
use Rattle.model_data.specs.declared.batch.BatchRow.{BatchRow}
use Rattle.table_defs.specs.Lists.{changed, put}
use Rattle.table_defs.specs.Names.{is_attempt}
use Rattle.table_defs.specs.Table.{Table, applied, row_of}
use Rattle.cluster_defs.specs.Appended.{attempt_in, next_id, record_of}
use Rattle.cluster_defs.specs.Asks as asks
use Rattle.cluster_defs.specs.Asks.{Ask}
use Rattle.cluster_defs.specs.Cluster.{Cluster, Given, Job, Node, Running, Waiting, id_of, job_of, jobs_given, runs_at}
use Rattle.cluster_defs.specs.Placement.{dequeue, enqueue}
use Rattle.cluster_defs.specs.Refusals.{marked_job}
use Rattle.cluster_defs.specs.Site.{Site}
use Rattle.cluster_defs.specs.Waiters.{is_job, is_node, is_seat}

-- ---- table and journal, by the record

abbrev pub kept_table : Option BatchRecord → Table → Table
kept_table None t = t
kept_table (Some r) t = applied r t

abbrev pub kept_journal : Site → Option BatchRecord → ℕ → ℕ
kept_journal k None end = end
kept_journal k (Some r) end = end + 5 + k.record_bytes r

-- ---- jobs

abbrev pub new_job : List Given → Seat → ℤ → Job
new_job given seat priority = record { seat = seat; number = jobs_given seat given + 1; priority = priority; node = None; lost = false; marked = false }

abbrev pub is_lost : Option Job → Bool
is_lost None = false
is_lost (Some job) = job.lost

abbrev pub without_job : Seat → List Job → List Job
without_job seat jobs = filter (λ job. not (is_seat seat job.seat)) jobs

abbrev pub lost_jobs : NodeNo → List Job → List Job
lost_jobs node jobs = changed (runs_at node) (λ job. record job { lost = true }) jobs

abbrev pub marked_jobs : Option Job → List Job → List Job
marked_jobs None jobs = jobs
marked_jobs (Some found) jobs = changed (λ job. is_job (id_of found) (id_of job)) (λ job. record job { marked = true }) jobs

-- A lost job goes when its seat has been told.
abbrev pub jobs_after : List Given → Seat → Ask → List Job → List Job
jobs_after given seat (asks.Job priority) jobs = jobs ++ new_job given seat priority ∷ []
jobs_after given seat asks.Poll jobs = if is_lost (job_of seat jobs) then without_job seat jobs else jobs
jobs_after given seat asks.Leave jobs = without_job seat jobs
jobs_after given seat (asks.Fail node) jobs = lost_jobs node jobs
jobs_after given seat (asks.AbortJob number own) jobs = marked_jobs (marked_job jobs number own) jobs
jobs_after given seat ask jobs = jobs

-- how many jobs the seats were given
abbrev pub given_after : Seat → Ask → List Given → List Given
given_after seat (asks.Job priority) given = put (λ g. is_seat seat g.seat) (record { seat = seat; jobs = jobs_given seat given + 1 }) given
given_after seat ask given = given

-- ---- attempts that run

abbrev pub without_attempt : BatchId → ℕ → List Running → List Running
without_attempt id attempt placed = filter (λ r. not (is_attempt id attempt r.id r.attempt)) placed

abbrev pub without_node : NodeNo → List Running → List Running
without_node node placed = filter (λ r. not (is_node node r.node)) placed

abbrev pub placed_after : Table → Ask → List Running → List Running
placed_after t (asks.Abort id) placed = without_attempt id (attempt_in (row_of id t)) placed
placed_after t (asks.Fail node) placed = without_node node placed
placed_after t ask placed = placed

-- ---- the waiting list and the nodes, which are all owners'

abbrev pub priority_in : Option BatchRow → ℤ
priority_in None = ℤ.pos 0
priority_in (Some row) = row.body.params.priority

abbrev pub waiting_after : Cluster → Seat → Ask → List Waiting
waiting_after c seat (asks.Job priority) = enqueue record { waiter = waits.Seat record { seat = seat; number = jobs_given seat c.given + 1 }; priority = priority } c.waiting
waiting_after c seat asks.Leave = elim (job_of seat c.jobs) as (λ _. List Waiting) [ None ↦ c.waiting | Some job ↦ dequeue (waits.Seat (id_of job)) c.waiting ]
waiting_after c seat (asks.Create body) = enqueue record { waiter = waits.Batch (next_id seat.owner c.table) 1; priority = body.params.priority } c.waiting
waiting_after c seat (asks.Abort id) = dequeue (waits.Batch id (attempt_in (row_of id c.table))) c.waiting
waiting_after c seat (asks.Retry id) = enqueue record { waiter = waits.Batch id (attempt_in (row_of id c.table) + 1); priority = priority_in (row_of id c.table) } c.waiting
waiting_after c seat ask = c.waiting

abbrev pub with_node : NodeNo → (Node → Node) → List Node → List Node
with_node node f nodes = changed (λ n. is_node node n.node) f nodes

abbrev pub nodes_after : Ask → List Node → List Node
nodes_after (asks.Limits node limit hard) nodes = with_node node (λ n. record n { limit = limit; hard = hard }) nodes
nodes_after (asks.Drain node) nodes = with_node node (λ n. record n { state = state.Draining }) nodes
nodes_after (asks.Resume node) nodes = with_node node (λ n. record n { state = state.Alive }) nodes
nodes_after (asks.Fail node) nodes = with_node node (λ n. record n { state = state.Failed }) nodes
nodes_after ask nodes = nodes

-- ---- all of it, but what is counted

abbrev pub done : Site → Cluster → Seat → Ask → Cluster
done k c seat ask = let r = record_of c.table c.placed seat ask in record {
  table = kept_table r c.table;
  jobs = jobs_after c.given seat ask c.jobs;
  placed = placed_after c.table ask c.placed;
  taken = c.taken;
  given = given_after seat ask c.given;
  usage = c.usage;
  waiting = waiting_after c seat ask;
  nodes = nodes_after ask c.nodes;
  journal = kept_journal k r c.journal;
}
