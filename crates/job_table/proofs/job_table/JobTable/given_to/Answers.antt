use Rattle.std.proofs.Common.{◌∙◌, ap, ℕ, Option}
use Rattle.std.specs.Prelude.{unwrap_or}
use Rattle.cluster_defs.specs.Cluster.{jobs_given}
use Rattle.job_table.specs.Jobs.{Jobs}
use Rattle.job_table.proofs.Given.{counted}
use Rattle.job_table.proofs.job_table.JobTable.given_to.Goals as goal

pub returns-in-Some : goal.returns-in-Some
returns-in-Some c = ap (λ (o : Option ℕ). unwrap_or o 0) c.in-Some.ensures.value ∙ counted c.args.seat.now c.self.inside.given.entries ∙ ap (λ (t : Jobs). jobs_given c.args.seat.now t.given) c.self.view_is

pub returns-in-None : goal.returns-in-None
returns-in-None c = ap (λ (o : Option ℕ). unwrap_or o 0) c.in-None.ensures.value ∙ counted c.args.seat.now c.self.inside.given.entries ∙ ap (λ (t : Jobs). jobs_given c.args.seat.now t.given) c.self.view_is
