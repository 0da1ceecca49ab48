-- The jobs of seats in the order in which they are listed, and how many each seat was given.
use Rattle.std.specs.Prelude.{ℕ, ◌≡◌, ◌==◌, true, List, [], ◌∷◌, filter, map, not, Option, Some, None, if◌then◌else◌}
use Rattle.base_names.specs.declared.node.JobLine.{JobLine}
use Rattle.base_names.specs.declared.seat.JobId.{JobId}
use Rattle.base_names.specs.declared.seat.Seat.{Seat}
use Rattle.table_defs.specs.Lists.{changed}
use Rattle.cluster_defs.specs.Cluster.{Given, Job, id_of, job_of}
use Rattle.cluster_defs.specs.Listing.{job_line}
use Rattle.cluster_defs.specs.Waiters.{is_job, is_seat}
use Rattle.job_table.specs.declared.job.Job as told
use Rattle.job_table.specs.declared.job.Row.{Row}

pub record Jobs : Type 0 where
  -- one for a seat at most
  pub jobs : List Job
  -- in no order
  pub given : List Given

-- ---- as they are kept and told

abbrev pub job_at : Seat → Row → Job
job_at seat row = record { seat = seat; number = row.number; priority = row.priority; node = row.node; lost = row.lost; marked = row.marked }

abbrev pub known : told.Job → Job
known job = record { seat = job.id.seat; number = job.id.number; priority = job.priority; node = job.node; lost = job.lost; marked = job.marked }

abbrev pub job_in : Seat × Row → Job
job_in e = job_at e.0 e.1

abbrev pub jobs_in : List (Seat × Row) → List Job
jobs_in es = map job_in es

abbrev pub given_in : Seat × ℕ → Given
given_in e = record { seat = e.0; jobs = e.1 }

abbrev pub all_given : List (Seat × ℕ) → List Given
all_given es = map given_in es

-- ---- what is asked of them

abbrev pub of_number : ℕ → Option Job → Option Job
of_number n None = None
of_number n (Some job) = if job.number == n then Some job else None

-- the job of this name
abbrev pub found : JobId → List Job → Option Job
found id jobs = of_number id.number (job_of id.seat jobs)

-- the seat's job stands so
abbrev pub set_job : Seat → Job → List Job → List Job
set_job seat new jobs = changed (λ job. is_seat seat job.seat) (λ _. new) jobs

-- the job of this name is changed
abbrev pub with_job : JobId → (Job → Job) → Jobs → Jobs
with_job id f t = record t { jobs = changed (λ job. is_job id (id_of job)) f t.jobs }

-- What is lost is listed no longer.
abbrev pub lines : List Job → List JobLine
lines jobs = map job_line (filter (λ job. not job.lost) jobs)

-- ---- what is kept

-- Behind a job of the seat there is none.
abbrev pub IsOnce : Seat → List Job → Type 0
IsOnce seat [] = Unit {0}
IsOnce seat (job ∷ jobs) = (is_seat seat job.seat ≡ true → job_of seat jobs ≡ None) × IsOnce seat jobs
