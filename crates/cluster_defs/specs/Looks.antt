-- Whether a job or an attempt has been cut: what is asked now and then while it is solved.
use Rattle.std.specs.Prelude.{ℕ, Bool, true, not, List, Option, Some, None, ◌==◌, ◌||◌}
use Rattle.base_names.specs.declared.node.Waiter.{Waiter}
use Rattle.base_names.specs.declared.node.Waiter.TheVariants as waits
use Rattle.table_defs.specs.Table.{Table, row_of}
use Rattle.cluster_defs.specs.Cluster.{Job, job_of}
use Rattle.cluster_defs.specs.Step.{still_open}

abbrev pub job_cut : ℕ → Option Job → Bool
job_cut number None = true
job_cut number (Some job) = not (job.number == number) || job.marked || job.lost

abbrev pub cut : Table → List Job → Waiter → Bool
cut t jobs (waits.Seat job) = job_cut job.number (job_of job.seat jobs)
cut t jobs (waits.Batch id attempt) = not (still_open attempt (row_of id t))
