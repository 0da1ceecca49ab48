use Rattle.std.proofs.Common.{◌∙◌, ap}
use Rattle.cluster_defs.specs.Effects.{without_job}
use Rattle.job_table.specs.Jobs.{Jobs, jobs_in}
use Rattle.job_table.proofs.Found.{is_kept, is_without}
use Rattle.job_table.proofs.Rows.{once, removed}
use Rattle.job_table.proofs.job_table.JobTable.remove.Goals as goal

pub returns-in-Some-clause-table : goal.returns-in-Some-clause-table
returns-in-Some-clause-table c =
    let seat = c.args.id.now.seat in
    is_without c.args.id.now _ c.args.self.now _ c.in-Some.ensures.found
    (ap jobs_in c.remove.ensures.entries ∙ removed seat c.self.inside.rows.entries (once seat c.self.inside.rows.entries c.self.invariant) ∙ ap (λ (t : Jobs). without_job seat t.jobs) c.self.view_is)
    (ap (λ (t : Jobs). t.given) c.self.view_is)

pub returns-in-None-clause-table : goal.returns-in-None-clause-table
returns-in-None-clause-table c = is_kept c.args.id.now c.args.self.now c.in-None.ensures.found
