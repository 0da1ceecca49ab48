-- Why a command of a seat is refused: one test for each refusal, by the asks that it concerns.
use Rattle.std.specs.Prelude.{ℕ, ◌+◌, ◌*◌, ◌==◌, nat_lt, nat_le, Bool, true, false, not, ◌&&◌, ◌||◌, List, [], ◌∷◌, filter, find, length, sum_by, Option, Some, None, is_some, is_none, if◌then◌else◌}
use Rattle.base_names.specs.declared.id.BatchId.{BatchId}
use Rattle.base_names.specs.declared.node.NodeNo.{NodeNo}
use Rattle.base_names.specs.declared.refusal.OwnerLimit.TheVariants.{Commands, Numbers, Bytes}
use Rattle.base_names.specs.declared.refusal.Refusal.{Refusal}
use Rattle.base_names.specs.declared.refusal.Refusal.TheVariants.{DISK, JOURNALFULL, NODE, NOJOB, NONODE, OWNERFULL, RANGE, ROLE, STATE}
use Rattle.base_names.specs.declared.seat.Role.TheVariants.{Admin}
use Rattle.base_names.specs.declared.seat.Seat.{Seat}
use Rattle.model_data.specs.declared.batch.BatchRecord.{BatchRecord}
use Rattle.model_data.specs.declared.batch.BatchRecord.TheVariants as is
use Rattle.model_data.specs.declared.batch.BatchRow.{BatchRow}
use Rattle.table_defs.specs.Names.{Owner, is_owner}
use Rattle.table_defs.specs.Owned.{rows_of}
use Rattle.table_defs.specs.Table.{Table, aborted, applied, failed, greatest, row_of, submitted}
use Rattle.table_defs.specs.Taken.{is_over, on_row, or_else, unless}
use Rattle.cluster_defs.specs.Appended.{record_of}
use Rattle.cluster_defs.specs.Asks as asks
use Rattle.cluster_defs.specs.Asks.{Ask}
use Rattle.cluster_defs.specs.Cluster.{Cluster, Job, Node, Usage, job_of, usage_of}
use Rattle.cluster_defs.specs.Deeds.{Faults}
use Rattle.cluster_defs.specs.Listing.{listed_jobs}
use Rattle.cluster_defs.specs.Placement.{is_alive}
use Rattle.cluster_defs.specs.Site.{Site}
use Rattle.cluster_defs.specs.Waiters.{is_node, is_role}

-- ---- the limit on commands: nothing is changed or kept where it is told

-- the most bytes that the commands of an owner may be charged
abbrev pub most_charges : ℕ
most_charges = 33554432

abbrev pub is_at_limit : Site → Usage → Bool
is_at_limit k usage = nat_le k.setup.limits.commands usage.entries || nat_le most_charges usage.charges

-- A seat may always leave the job that it holds, and is not counted for it.
abbrev pub is_free : List Job → Seat → Ask → Bool
is_free jobs seat asks.Leave = is_some (job_of seat jobs)
is_free jobs seat ask = false

abbrev pub commands_refusal : Site → List Usage → List Job → Seat → Ask → Option Refusal
commands_refusal k usage jobs seat ask = unless (is_free jobs seat ask || not (is_at_limit k (usage_of seat.owner usage))) (OWNERFULL Commands)

-- ---- every other one, in the order in which they are tried

abbrev pub is_for_admins : Ask → Bool
is_for_admins asks.Nodes = true
is_for_admins asks.Jobs = true
is_for_admins (asks.Limits node limit hard) = true
is_for_admins (asks.Drain node) = true
is_for_admins (asks.Resume node) = true
is_for_admins (asks.Fail node) = true
is_for_admins (asks.AbortJob seat job) = true
is_for_admins ask = false

abbrev pub role_refusal : Seat → Ask → Option Refusal
role_refusal seat ask = unless (not (is_for_admins ask) || is_role seat.role Admin) ROLE

abbrev pub has_node : NodeNo → List Node → Bool
has_node node nodes = is_some (find (λ n. is_node node n.node) nodes)

abbrev pub node_refusal : List Node → Ask → Option Refusal
node_refusal nodes (asks.Limits node limit hard) = unless (has_node node nodes) NODE
node_refusal nodes (asks.Drain node) = unless (has_node node nodes) NODE
node_refusal nodes (asks.Resume node) = unless (has_node node nodes) NODE
node_refusal nodes (asks.Fail node) = unless (has_node node nodes) NODE
node_refusal nodes ask = None

abbrev pub range_refusal : Ask → Option Refusal
range_refusal (asks.Limits node limit hard) = unless (nat_le 1 limit && nat_le limit 1000 && ((hard == 0) || (nat_le limit hard && nat_le hard 1000))) RANGE
range_refusal ask = None

abbrev pub state_refusal : List Job → Seat → Ask → Option Refusal
state_refusal jobs seat (asks.Job priority) = unless (is_none (job_of seat jobs)) STATE
state_refusal jobs seat ask = None

-- the first one with these numbers, in the order in which jobs are listed
abbrev pub marked_job : List Job → ℕ → ℕ → Option Job
marked_job jobs seat number = find (λ job. (job.seat.number == seat) && (job.number == number)) (listed_jobs jobs)

abbrev pub job_refusal : List Job → Seat → Ask → Option Refusal
job_refusal jobs seat asks.Poll = unless (is_some (job_of seat jobs)) NOJOB
job_refusal jobs seat asks.Leave = unless (is_some (job_of seat jobs)) NOJOB
job_refusal jobs seat ask = None

abbrev pub marked_refusal : List Job → Ask → Option Refusal
marked_refusal jobs (asks.AbortJob seat number) = unless (is_some (marked_job jobs seat number)) NOJOB
marked_refusal jobs ask = None

-- A job is not taken where no node may ever run it; a batch waits for one.
abbrev pub alive_refusal : List Node → Ask → Option Refusal
alive_refusal nodes (asks.Job priority) = unless (is_some (find (λ n. is_alive n.state) nodes)) NONODE
alive_refusal nodes ask = None

-- A batch's row, where it is the seat's own. No seat sees another owner's.
abbrev pub seen_row : Seat → BatchId → Table → Option BatchRow
seen_row seat id t = if is_owner seat.owner id.owner then row_of id t else None

-- the greatest number of a batch and of an attempt
abbrev pub most_number : ℕ
most_number = 4294967295

abbrev pub may_retry : BatchRow → Bool
may_retry row = ((row.status == aborted) || (row.status == failed)) && nat_lt row.attempt most_number

abbrev pub batch_refusal : Table → Seat → Ask → Option Refusal
batch_refusal t seat (asks.Status id) = on_row (λ row. true) (seen_row seat id t)
batch_refusal t seat (asks.Row id) = on_row (λ row. true) (seen_row seat id t)
batch_refusal t seat (asks.Abort id) = on_row (λ row. row.status == submitted) (seen_row seat id t)
batch_refusal t seat (asks.Discard id) = on_row is_over (seen_row seat id t)
batch_refusal t seat (asks.Retry id) = on_row may_retry (seen_row seat id t)
batch_refusal t seat ask = None

abbrev pub numbers_refusal : Table → Seat → Ask → Option Refusal
numbers_refusal t seat (asks.Create body) = unless (nat_lt (greatest seat.owner t) most_number) (OWNERFULL Numbers)
numbers_refusal t seat ask = None

-- the bytes of the models that an owner keeps
abbrev pub kept_bytes : Site → Owner → Table → ℕ
kept_bytes k owner t = sum_by (λ row. k.model_bytes row.body.model) (rows_of owner t.rows)

abbrev pub bytes_refusal : Site → Table → Seat → Ask → Option Refusal
bytes_refusal k t seat (asks.Create body) = unless (nat_le (kept_bytes k seat.owner t + k.model_bytes body.model) k.setup.limits.bytes) (OWNERFULL Bytes)
bytes_refusal k t seat ask = None

-- what is kept free for the outcome of one attempt
abbrev pub reserved : ℕ
reserved = 1200000

abbrev pub reserve : Table → ℕ
reserve t = reserved * length (filter (λ row. row.status == submitted) t.rows)

-- The bytes that the journal needs, from its end and the table: those of the record, and what is kept free for the outcomes of
-- all that goes on then.
abbrev pub need : Site → ℕ → Table → BatchRecord → ℕ
need k end t r = end + 5 + k.record_bytes r + reserve (applied r t)

abbrev pub room_refusal : Site → ℕ → Table → BatchRecord → Option Refusal
room_refusal k end t r = unless (nat_le (need k end t r) k.setup.limits.journal) (JOURNALFULL (need k end t r) k.setup.limits.journal)

-- An outcome frees what was reserved for it, so it always fits.
abbrev pub journal_refusal : Site → ℕ → Table → Option BatchRecord → Option Refusal
journal_refusal k end t None = None
journal_refusal k end t (Some (is.Abort id attempt)) = None
journal_refusal k end t (Some (is.Finish id attempt result)) = None
journal_refusal k end t (Some (is.Lost items)) = None
journal_refusal k end t (Some r) = room_refusal k end t r

abbrev pub disk_refusal : Faults → Option BatchRecord → Option Refusal
disk_refusal f None = None
disk_refusal f (Some r) = unless (nat_le f.after f.before) (DISK f.before f.after)

-- ---- their order, behind that of the limit on commands

abbrev pub first_of : List (Option Refusal) → Option Refusal
first_of [] = None
first_of (x ∷ xs) = or_else x (first_of xs)

abbrev pub ask_refusal : Site → Cluster → Seat → Ask → Faults → Option Refusal
ask_refusal k c seat ask f = let r = record_of c.table c.placed seat ask in first_of (
    role_refusal seat ask
    ∷ node_refusal c.nodes ask
    ∷ range_refusal ask
    ∷ state_refusal c.jobs seat ask
    ∷ job_refusal c.jobs seat ask
    ∷ marked_refusal c.jobs ask
    ∷ alive_refusal c.nodes ask
    ∷ batch_refusal c.table seat ask
    ∷ numbers_refusal c.table seat ask
    ∷ bytes_refusal k c.table seat ask
    ∷ journal_refusal k c.journal c.table r
    ∷ disk_refusal f r
    ∷ [])
