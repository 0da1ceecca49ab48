use Rattle.std.proofs.Common.{◌∙◌, ap, subst, option_map}
use Rattle.job_table.specs.Jobs.{IsOnce, Jobs, found, job_at, jobs_in}
use Rattle.job_table.proofs.Found.{is_found, is_none, is_other}
use Rattle.job_table.proofs.Rows.{looked_up, once}
use Rattle.job_table.proofs.job_table.JobTable.row.Goals as goal

pub returns-then-row-id-clause-found : goal.returns-then-row-id-clause-found
returns-then-row-id-clause-found c =
    let seat = c.args.id.now.seat in
    is_found c.args.id.now (job_at seat c.in-Some.row.now) (jobs_in c.self.inside.rows.entries) (ap (option_map (job_at seat)) c.in-Some.ensures.value ∙ looked_up seat c.self.inside.rows.entries) c.if-row-id.true
    ∙ ap (λ (t : Jobs). found c.args.id.now t.jobs) c.self.view_is

pub returns-then-row-id-clause-once : goal.returns-then-row-id-clause-once
returns-then-row-id-clause-once c = subst (λ (t : Jobs). IsOnce c.args.id.now.seat t.jobs) c.self.view_is (once c.args.id.now.seat c.self.inside.rows.entries c.self.invariant)

pub returns-else-row-id-clause-found : goal.returns-else-row-id-clause-found
returns-else-row-id-clause-found c =
    let seat = c.args.id.now.seat in
    is_other c.args.id.now (job_at seat c.in-Some.row.now) (jobs_in c.self.inside.rows.entries) (ap (option_map (job_at seat)) c.in-Some.ensures.value ∙ looked_up seat c.self.inside.rows.entries) c.if-row-id.false
    ∙ ap (λ (t : Jobs). found c.args.id.now t.jobs) c.self.view_is

pub returns-else-row-id-clause-once : goal.returns-else-row-id-clause-once
returns-else-row-id-clause-once c = subst (λ (t : Jobs). IsOnce c.args.id.now.seat t.jobs) c.self.view_is (once c.args.id.now.seat c.self.inside.rows.entries c.self.invariant)

pub returns-in-None-clause-found : goal.returns-in-None-clause-found
returns-in-None-clause-found c =
    let seat = c.args.id.now.seat in
    is_none c.args.id.now (jobs_in c.self.inside.rows.entries) (ap (option_map (job_at seat)) c.in-None.ensures.value ∙ looked_up seat c.self.inside.rows.entries)
    ∙ ap (λ (t : Jobs). found c.args.id.now t.jobs) c.self.view_is

pub returns-in-None-clause-once : goal.returns-in-None-clause-once
returns-in-None-clause-once c = subst (λ (t : Jobs). IsOnce c.args.id.now.seat t.jobs) c.self.view_is (once c.args.id.now.seat c.self.inside.rows.entries c.self.invariant)
