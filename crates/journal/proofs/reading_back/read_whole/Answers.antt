use Rattle.std.proofs.Common.{rules, ℕ, ◌≡◌, ◌∙◌, length, ap}
use Rattle.disk_model.specs.Calls.{ReadCall}
use Rattle.disk_model.specs.declared.answer.DiskDone.TheVariants.{Done, Failed}
use Rattle.journal.specs.Plans.{ReadStep}
use Rattle.journal.proofs.Planning.{one_done, one_failed}
use Rattle.journal.proofs.reading_back.read_whole.Goals as goal

pub returns-in-Done-clause-calls : goal.returns-in-Done-clause-calls
returns-in-Done-clause-calls g c =
    let called = c.read.ensures.called in
    let len : length c.deref_mut.result.now ≡ c.args.len = search rules in
    let is = ap (ReadCall 0 (length c.deref_mut.result.now)) c.in-Done.is ∙ ap (λ (n : ℕ). ReadCall 0 n Done) len in
    one_done g.D.Disk.calls g.D.Disk.makes (ReadStep 0 c.args.len) _ c.args.disk.now c.read.new.self is called.call called.change

pub returns-in-Failed-clause-fault : goal.returns-in-Failed-clause-fault
returns-in-Failed-clause-fault g c =
    let called = c.read.ensures.called in
    let len : length c.deref_mut.result.now ≡ c.args.len = search rules in
    let is = ap (ReadCall 0 (length c.deref_mut.result.now)) c.in-Failed.is ∙ ap (λ (n : ℕ). ReadCall 0 n Failed) len in
    (tt, one_failed g.D.Disk.calls g.D.Disk.makes (ReadStep 0 c.args.len) _ c.args.disk.now c.read.new.self is called.call called.change)
