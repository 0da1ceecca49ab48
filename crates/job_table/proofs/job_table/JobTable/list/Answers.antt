use Rattle.std.proofs.Common.{◌∙◌, ◌++◌, ap, ap₂, sym, List}
use Rattle.base_names.specs.declared.node.JobLine.{JobLine}
use Rattle.base_names.specs.declared.seat.Seat.{Seat}
use Rattle.table_defs.proofs.Lists.{append_nil}
use Rattle.job_table.specs.declared.job.Row.{Row}
use Rattle.job_table.specs.Jobs.{Jobs, job_at, jobs_in, lines}
use Rattle.job_table.proofs.Found.{list_step}
use Rattle.job_table.proofs.job_table.JobTable.list.Goals as goal

pub loop-seat-init : goal.loop-seat-init
loop-seat-init c =
    ap₂ (λ (done : List JobLine) (es : List (Seat × Row)). done ++ lines (jobs_in es)) c.new-listed.ensures.items c.into_iter-seat-iterator.ensures.into_iter_gives.0
    ∙ ap (λ (t : Jobs). lines t.jobs) c.self.view_is

pub loop-seat-preserved : goal.loop-seat-preserved
loop-seat-preserved c =
    list_step c.loop-seat.listed.items _ (job_at c.in-Some.seat.now c.in-Some.row.now) (jobs_in c.next.new.self) (lines c.args.self.now.jobs)
    (ap (λ (es : List (Seat × Row)). c.loop-seat.listed.items ++ lines (jobs_in es)) (sym c.in-Some.ensures.steps) ∙ c.loop-seat.invariant) c.in_ok-push_line.ensures

pub returns : goal.returns
returns c =
    sym (append_nil c.loop-seat.listed.items)
    ∙ ap (λ (es : List (Seat × Row)). c.loop-seat.listed.items ++ lines (jobs_in es)) (sym c.in-None.ensures.steps.0)
    ∙ c.loop-seat.invariant
