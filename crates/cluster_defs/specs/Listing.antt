-- In which order jobs and batches are listed, and what a line says.
use Rattle.std.specs.Prelude.{◌≡◌, ⊤, ◌==◌, nat_lt, Bool, true, false, not, List, [], ◌∷◌, ◌++◌, filter, find, map, Option, Some, None, if◌then◌else◌}
use Rattle.std.specs.Ordering.{nat_cmp, is_lt}
use Rattle.std.specs.Cmp.Lexicographic.{slice_cmp}
use Rattle.base_names.specs.declared.id.BatchId.{BatchId}
use Rattle.base_names.specs.declared.node.JobLine.{JobLine}
use Rattle.base_names.specs.declared.node.NodeNo.{NodeNo}
use Rattle.base_names.specs.declared.node.Waiter.TheVariants as waits
use Rattle.base_names.specs.declared.seat.Role.{Role}
use Rattle.base_names.specs.declared.seat.Role.TheVariants.{Standard, Admin}
use Rattle.base_names.specs.declared.seat.Seat.{Seat}
use Rattle.model_data.specs.declared.batch.BatchRow.{BatchRow}
use Rattle.table_defs.specs.Names.{Owner, is_attempt, is_owner}
use Rattle.table_defs.specs.Table.{submitted}
use Rattle.cluster_defs.specs.Cluster.{Cluster, Job, Running, id_of}

-- by the bytes of the names
abbrev pub comes_first : Owner → Owner → Bool
comes_first a b = is_lt (slice_cmp nat_cmp a b)

-- ---- batches: by owner, then by number

abbrev pub is_before : BatchId → BatchId → Bool
is_before a b = if is_owner a.owner b.owner then nat_lt a.number b.number else comes_first a.owner b.owner

abbrev pub sorted_in : BatchRow → List BatchRow → List BatchRow
sorted_in row [] = row ∷ []
sorted_in row (next ∷ rows) = if is_before row.id next.id then row ∷ next ∷ rows else next ∷ sorted_in row rows

abbrev pub by_id : List BatchRow → List BatchRow
by_id [] = []
by_id (row ∷ rows) = sorted_in row (by_id rows)

abbrev pub is_going_on : BatchRow → Bool
is_going_on row = row.status == submitted

-- ---- jobs: by the seat's number, then by owner, then by role, STANDARD first

abbrev pub is_lower : Role → Role → Bool
is_lower Standard Admin = true
is_lower a b = false

abbrev pub is_earlier : Seat → Seat → Bool
is_earlier a b = if a.number == b.number then (if is_owner a.owner b.owner then is_lower a.role b.role else comes_first a.owner b.owner) else nat_lt a.number b.number

abbrev pub seated_in : Job → List Job → List Job
seated_in job [] = job ∷ []
seated_in job (next ∷ jobs) = if is_earlier next.seat job.seat then next ∷ seated_in job jobs else job ∷ next ∷ jobs

abbrev pub by_seat : List Job → List Job
by_seat [] = []
by_seat (job ∷ jobs) = seated_in job (by_seat jobs)

-- A job that was lost is listed no longer.
abbrev pub listed_jobs : List Job → List Job
listed_jobs jobs = by_seat (filter (λ job. not job.lost) jobs)

-- ---- lines

abbrev pub job_line : Job → JobLine
job_line job = record { waiter = waits.Seat (id_of job); owner = job.seat.owner; priority = job.priority; node = job.node }

abbrev pub node_in : Option Running → Option NodeNo
node_in None = None
node_in (Some r) = Some r.node

abbrev pub attempt_line : List Running → BatchRow → JobLine
attempt_line placed row = record { waiter = waits.Batch row.id row.attempt; owner = row.id.owner; priority = row.body.params.priority; node = node_in (find (λ r. is_attempt row.id row.attempt r.id r.attempt) placed) }

-- the seats' jobs, and then the submitted batches
abbrev pub job_lines : Cluster → List JobLine
job_lines c = map job_line (listed_jobs c.jobs) ++ map (attempt_line c.placed) (by_id (filter is_going_on c.table.rows))

-- ---- their order

abbrev pub IsNotBehind : Job → List Job → Type 0
IsNotBehind job [] = ⊤
IsNotBehind job (next ∷ jobs) = is_earlier next.seat job.seat ≡ false

-- none stands before an earlier one
abbrev pub IsInOrder : List Job → Type 0
IsInOrder [] = ⊤
IsInOrder (job ∷ jobs) = IsNotBehind job jobs × IsInOrder jobs

abbrev pub IsFollowed : BatchRow → List BatchRow → Type 0
IsFollowed row [] = ⊤
IsFollowed row (next ∷ rows) = is_before next.id row.id ≡ false

abbrev pub AreInOrder : List BatchRow → Type 0
AreInOrder [] = ⊤
AreInOrder (row ∷ rows) = IsFollowed row rows × AreInOrder rows
