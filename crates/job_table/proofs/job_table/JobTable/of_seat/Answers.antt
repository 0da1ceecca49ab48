use Rattle.std.proofs.Common.{◌∙◌, ap, Some, option_map}
use Rattle.cluster_defs.specs.Cluster.{Job, job_of}
use Rattle.job_table.specs.Jobs.{Jobs, job_at}
use Rattle.job_table.proofs.Rows.{looked_up}
use Rattle.job_table.proofs.job_table.JobTable.of_seat.Goals as goal

pub returns-in-Some : goal.returns-in-Some
returns-in-Some c = ap (λ (j : Job). Some j) c.of_seat.ensures ∙ ap (option_map (job_at c.args.seat.now)) c.in-Some.ensures.value ∙ looked_up c.args.seat.now c.self.inside.rows.entries ∙ ap (λ (t : Jobs). job_of c.args.seat.now t.jobs) c.self.view_is

pub returns-in-None : goal.returns-in-None
returns-in-None c = ap (option_map (job_at c.args.seat.now)) c.in-None.ensures.value ∙ looked_up c.args.seat.now c.self.inside.rows.entries ∙ ap (λ (t : Jobs). job_of c.args.seat.now t.jobs) c.self.view_is
