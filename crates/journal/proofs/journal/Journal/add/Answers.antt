use Rattle.std.proofs.Common.{rules, inl, inr, subst, ap, map, ℕ, List, ◌≡◌, ◌∙◌, ◌++◌, true, false, is_ok, OnErr, Result, Ok, Err, Some}
use Rattle.disk_model.specs.declared.answer.DiskDone.{DiskDone}
use Rattle.disk_model.specs.declared.answer.DiskDone.TheVariants.{Done, Failed}
use Rattle.disk_model.specs.Moments.{LeavesOnly}
use Rattle.journal.specs.Plans.{RanOn, open_plan, settle_plan, stage_plan}
use Rattle.journal.specs.Putting.{is_done}
use Rattle.journal.specs.Records.{IsClosed}
use Rattle.journal.specs.Standing.{Holds, body_in, bodies_of, doubt_of}
use Rattle.journal.proofs.Planning.{ran_none, run_more}
use Rattle.journal.proofs.Standing.{opens}
use Rattle.journal.proofs.journal.Journal.add.Goals as goal

on_any : {A E : Type 0} (r : Result A E) (P : Type 0) → P → OnErr r P
on_any (Ok a) P p = tt
on_any (Err e) P p = p

pub returns-in_err-settle-clause-doubt : goal.returns-in_err-settle-clause-doubt
returns-in_err-settle-clause-doubt g c =
    let calls = g.D.Disk.calls in
    let makes = g.D.Disk.makes in
    let old = c.args.self.now in
    let failed : is_ok c.settle.result ≡ false = search rules in
    let ran : RanOn calls makes (settle_plan (doubt_of old) old.end) old.disk c.settle.new.self.disk false = rw failed at c.settle.ensures.calls in
    on_any c.from_residual.result _ (inl (c.in_err-settle.ensures.err, (old.disk, ran_none calls makes old.disk, ran)))

pub returns-then-eq-2-clause-doubt : goal.returns-then-eq-2-clause-doubt
returns-then-eq-2-clause-doubt g c =
    let calls = g.D.Disk.calls in
    let makes = g.D.Disk.makes in
    let old = c.args.self.now in
    let body = c.args.body.now in
    let settled = c.settle.new.self.disk in
    let staging = c.stage.new.self.disk in
    let staged : c.stage.result ≡ Done = search rules in
    let failed : c.open_gate.result ≡ Failed = search rules in
    let end_is = c.stage.ensures.rest.0 ∙ c.settle.ensures.rest.0 in
    let first : RanOn calls makes (settle_plan (doubt_of old) old.end) old.disk settled true = c.in_ok-settle.ensures.calls in
    let second : RanOn calls makes (stage_plan old.end body) settled staging true = rw staged at (rw c.settle.ensures.rest.0 at c.stage.ensures.calls) in
    let third : RanOn calls makes (open_plan old.end) staging c.open_gate.new.self.disk false = rw failed at (rw end_is at c.open_gate.ensures.calls) in
    inr (inr ((c.open_gate.ensures.failure failed).1, (staging, run_more calls makes (settle_plan (doubt_of old) old.end) (stage_plan old.end body) old.disk settled staging true first second, third)))

pub returns-then-eq-2-clause-any_moment : goal.returns-then-eq-2-clause-any_moment
returns-then-eq-2-clause-any_moment g c =
    let m = g.D.Disk.moment in
    let l = g.D.Disk.left in
    let old = c.args.self.now in
    let s = c.requires.stands in
    let bodies : bodies_of c.stage.new.self ≡ bodies_of old = search rules in
    opens m l (bodies_of old) (doubt_of old) s.short s.small c.args.body.now old.disk c.settle.new.self.disk c.stage.new.self.disk c.open_gate.new.self.disk c.settle.ensures.any_moment
    (subst (λ (bs : List (List ℕ)). LeavesOnly m l c.settle.new.self.disk c.stage.new.self.disk (IsClosed bs)) c.settle.ensures.bodies c.stage.ensures.any_moment)
    (subst (λ (bs : List (List ℕ)). LeavesOnly m l c.stage.new.self.disk c.open_gate.new.self.disk (Holds bs (Some c.args.body.now))) bodies c.open_gate.ensures.any_moment)

pub returns-clause-calls : goal.returns-clause-calls
returns-clause-calls g c =
    let calls = g.D.Disk.calls in
    let makes = g.D.Disk.makes in
    let old = c.args.self.now in
    let body = c.args.body.now in
    let settled = c.settle.new.self.disk in
    let staging = c.stage.new.self.disk in
    let new = c.open_gate.new.self.disk in
    let staged : c.stage.result ≡ Done = search rules in
    let opened : c.open_gate.result ≡ Done = search rules in
    let end_is = c.stage.ensures.rest.0 ∙ c.settle.ensures.rest.0 in
    let first : RanOn calls makes (settle_plan (doubt_of old) old.end) old.disk settled true = c.in_ok-settle.ensures.calls in
    let second : RanOn calls makes (stage_plan old.end body) settled staging true = rw staged at (rw c.settle.ensures.rest.0 at c.stage.ensures.calls) in
    let third : RanOn calls makes (open_plan old.end) staging new true = rw opened at (rw end_is at c.open_gate.ensures.calls) in
    run_more calls makes (settle_plan (doubt_of old) old.end) (stage_plan old.end body ++ open_plan old.end) old.disk settled new true first
    (run_more calls makes (stage_plan old.end body) (open_plan old.end) settled staging new true second third)
