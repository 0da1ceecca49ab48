use Rattle.std.proofs.Common.{◌∙◌, ap, ap₂, sym, subst, ◌≡◌, ◌+◌, ℕ, Some, None, false, OnOk, if◌then◌else◌, ℤ, w8}
use Rattle.std.specs.BTreeMap.{insert_entry}
use Rattle.std.specs.HashMap.{Updates}
use Rattle.std.proofs.lemmas.Int.{to_z-of_z}
use Rattle.base_names.specs.contracts.seat.SeatOrd.TheImpl as seats
use Rattle.base_names.specs.contracts.seat.SeatPartialEq.TheImpl as derived
use Rattle.cluster_defs.specs.Cluster.{job_of, jobs_given}
use Rattle.cluster_defs.specs.Listing.{seated_in}
use Rattle.job_table.specs.Jobs.{Jobs, job_at, jobs_in}
use Rattle.job_table.proofs.Rows.{inserted, on_err}
use Rattle.job_table.proofs.Given.{counted_alike, given_more}
use Rattle.job_table.proofs.job_table.JobTable.add.Goals as goal

pub returns-in_err-insert-clause-err : goal.returns-in_err-insert-clause-err
returns-in_err-insert-clause-err c =
    on_err c.from_residual-in_err-insert.result (
      ap jobs_in c.in_err-insert.ensures.err ∙ ap (λ (t : Jobs). t.jobs) c.self.view_is,
      λ s. counted_alike c.self.inside.given.entries c.reserve.new.self.entries (λ v. c.reserve.ensures.entries.2 v) s ∙ ap (λ (t : Jobs). jobs_given s t.given) c.self.view_is,
    )

pub returns-clause-jobs : goal.returns-clause-jobs
returns-clause-jobs c =
    ap jobs_in c.in_ok-insert.ensures.entries
    ∙ ap (λ (p : ℤ). jobs_in (insert_entry seats.ghosts.cmp c.self.inside.rows.entries c.args.seat.now (record { number = c.given_to-number.result + 1; priority = p; node = None; lost = false; marked = false }))) (to_z-of_z w8 c.args.priority c.ranges.priority)
    ∙ inserted c.args.seat.now (record { number = c.given_to-number.result + 1; priority = c.args.priority; node = None; lost = false; marked = false }) c.self.inside.rows.entries (subst (λ (t : Jobs). job_of c.args.seat.now t.jobs ≡ None) (sym c.self.view_is) c.requires.holds_none)
    ∙ ap₂ (λ (n : ℕ) (t : Jobs). seated_in (job_at c.args.seat.now (record { number = n + 1; priority = c.args.priority; node = None; lost = false; marked = false })) t.jobs) c.given_to-number.ensures c.self.view_is

pub returns-clause-given : goal.returns-clause-given
returns-clause-given c =
    let updates = subst (λ r. OnOk r (Updates derived.ghosts.eq c.reserve.new.self c.insert-put.new.self c.args.seat.now (Some (c.given_to-number.result + 1)))) c.unwrap-before.ensures c.insert-put.ensures.updates in
    given_more c.args.seat.now c.given_to-number.result c.self.inside.given.entries c.insert-put.new.self.entries c.args.self.now.given (ap (λ (t : Jobs). t.given) c.self.view_is) c.given_to-number.ensures
    (λ v. updates.0 v ∙ ap (λ (o : _). if derived.ghosts.eq c.args.seat.now v then Some (c.given_to-number.result + 1) else o) (c.reserve.ensures.entries.2 v))
