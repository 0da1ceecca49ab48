use Rattle.std.proofs.Common.{sym, not}
use Rattle.cluster_defs.specs.Waiters.{is_seat}
use Rattle.job_table.proofs.Order.{changed_by_seat, filter_by_seat, found_by_seat, last_by_seat, lines_by_seat}
use Rattle.job_table.proofs.laws.the_table_has_a_clusters_jobs.Goals as goal

pub returns-clause-found : goal.returns-clause-found
returns-clause-found c = found_by_seat

pub returns-clause-added : goal.returns-clause-added
returns-clause-added c = λ job jobs none. sym (last_by_seat job jobs none)

pub returns-clause-removed : goal.returns-clause-removed
returns-clause-removed c = λ seat jobs. filter_by_seat (λ job. not (is_seat seat job.seat)) jobs

pub returns-clause-changed : goal.returns-clause-changed
returns-clause-changed c = changed_by_seat

pub returns-clause-listed : goal.returns-clause-listed
returns-clause-listed c = lines_by_seat
