use Rattle.std.proofs.Common.{◌≡◌, ◌++◌}
use Rattle.job_table.specs.Jobs.{jobs_in, lines}
use Rattle.job_table.proofs.job_table.JobTable.list.Given as goal

abbrev pub invariant-loop-seat : goal.invariant-loop-seat
invariant-loop-seat l = l.listed.items ++ lines (jobs_in l.seat-iterator) ≡ lines l.self.jobs
