use Rattle.std.proofs.Common.{true}
use Rattle.cluster_defs.specs.Cluster.{Job}
use Rattle.job_table.specs.Jobs.{job_at}
use Rattle.job_table.proofs.Found.{is_as_before, is_with_job}
use Rattle.job_table.proofs.job_table.JobTable.mark_lost.Goals as goal

pub returns-in-Some-clause-table : goal.returns-in-Some-clause-table
returns-in-Some-clause-table c = is_with_job c.args.id.now (λ (job : Job). record job { lost = true }) (job_at c.args.id.now.seat c.in-Some.row) c.args.self.now c.put.new.self c.in-Some.ensures.once c.in-Some.ensures.found c.put.ensures.jobs c.put.ensures.given

pub returns-in-None-clause-table : goal.returns-in-None-clause-table
returns-in-None-clause-table c = is_as_before c.args.id.now (λ (job : Job). record job { lost = true }) c.args.self.now c.in-None.ensures.once c.in-None.ensures.found
