use Rattle.std.proofs.Common.{rules, ◌≡◌, [], ◌∷◌, ap}
use Rattle.disk_model.specs.Calls.{SyncCall}
use Rattle.disk_model.specs.declared.answer.DiskDone.TheVariants.{Done, Failed}
use Rattle.journal.specs.Plans.{LenStep, SyncStep}
use Rattle.journal.proofs.Planning.{run_short, one_done, one_failed, lengthen_ran}
use Rattle.journal.proofs.reading_back.measure.Goals as goal

pub returns-then-eq-clause-calls : goal.returns-then-eq-clause-calls
returns-then-eq-clause-calls g c len =
    let old = c.args.disk.now in
    let new = c.sync.new.self in
    let called = c.sync.ensures.called in
    let failed : c.sync.result ≡ Failed = search rules in
    run_short g.D.Disk.calls g.D.Disk.makes (SyncStep ∷ []) (LenStep len ∷ []) old new (one_failed g.D.Disk.calls g.D.Disk.makes SyncStep _ old new (ap SyncCall failed) called.call called.change)

pub returns-clause-calls : goal.returns-clause-calls
returns-clause-calls g c =
    let old = c.args.disk.now in
    let mid = c.sync.new.self in
    let called = c.sync.ensures.called in
    let measured = c.len.ensures.called in
    let synced : c.sync.result ≡ Done = search rules in
    lengthen_ran g.D.Disk.calls g.D.Disk.makes c.len.result old mid c.len.new.self (one_done g.D.Disk.calls g.D.Disk.makes SyncStep _ old mid (ap SyncCall synced) called.call called.change) measured.call measured.change
