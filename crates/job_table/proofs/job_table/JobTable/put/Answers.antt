use Rattle.std.proofs.Common.{◌∙◌, ap, sym, subst, is_some, true, ◌≡◌, OnOk}
use Rattle.std.specs.BTreeMap.{insert_entry}
use Rattle.base_names.specs.contracts.seat.SeatOrd.TheImpl as seats
use Rattle.cluster_defs.specs.Cluster.{job_of}
use Rattle.job_table.specs.Jobs.{Jobs, job_at, jobs_in, set_job}
use Rattle.job_table.proofs.Rows.{not_absent, ok_where, replaced}
use Rattle.job_table.proofs.job_table.JobTable.put.Goals as goal

pub unwrap-before-requires : goal.unwrap-before-requires
unwrap-before-requires c = ok_where c.insert-put.result c.insert-put.ensures.absent (not_absent c.args.seat.now c.self.inside.rows.entries (subst (λ (t : Jobs). is_some (job_of c.args.seat.now t.jobs) ≡ true) (sym c.self.view_is) c.requires.there))

pub returns-clause-jobs : goal.returns-clause-jobs
returns-clause-jobs c =
    let entries = subst (λ r. OnOk r (c.insert-put.new.self.entries ≡ insert_entry seats.ghosts.cmp c.self.inside.rows.entries c.args.seat.now c.args.row)) c.unwrap-before.ensures c.insert-put.ensures.entries in
    ap jobs_in entries
    ∙ replaced c.args.seat.now c.args.row c.self.inside.rows.entries c.self.invariant (subst (λ (t : Jobs). is_some (job_of c.args.seat.now t.jobs) ≡ true) (sym c.self.view_is) c.requires.there)
    ∙ ap (λ (t : Jobs). set_job c.args.seat.now (job_at c.args.seat.now c.args.row) t.jobs) c.self.view_is
