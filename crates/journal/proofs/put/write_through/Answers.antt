use Rattle.std.proofs.Common.{length, rules, ◌≡◌, [], ◌∷◌, ap}
use Rattle.disk_model.specs.Calls.{WriteCall}
use Rattle.disk_model.specs.declared.answer.DiskDone.TheVariants.{Done, Failed}
use Rattle.disk_model.proofs.Moments.{same_images, torn_images}
use Rattle.journal.specs.Plans.{WriteStep, SyncStep}
use Rattle.journal.specs.Putting.{is_done}
use Rattle.journal.proofs.Planning.{run_more, run_short, one_done, one_failed, sync_ran}
use Rattle.journal.proofs.put.write_through.Goals as goal

pub returns-then-eq-clause-any_moment : goal.returns-then-eq-clause-any_moment
returns-then-eq-clause-any_moment g c =
    torn_images g.D.Disk.moment g.D.Disk.left c.args.disk.now c.write_at.new.self c.args.at (length c.args.bytes.now) c.write_at.ensures.called.time c.write_at.ensures.images

pub returns-then-eq-clause-calls : goal.returns-then-eq-clause-calls
returns-then-eq-clause-calls g c =
    let old = c.args.disk.now in
    let new = c.write_at.new.self in
    let step = WriteStep c.args.at c.args.bytes.now in
    let called = c.write_at.ensures.called in
    let failed : c.write_at.result ≡ Failed = search rules in
    run_short g.D.Disk.calls g.D.Disk.makes (step ∷ []) (SyncStep ∷ []) old new (one_failed g.D.Disk.calls g.D.Disk.makes step _ old new (ap (WriteCall c.args.at c.args.bytes.now) failed) called.call called.change)

pub returns-clause-any_moment : goal.returns-clause-any_moment
returns-clause-any_moment g c =
    same_images g.D.Disk.moment g.D.Disk.left c.args.disk.now c.write_at.new.self c.sync.new.self _
    (torn_images g.D.Disk.moment g.D.Disk.left c.args.disk.now c.write_at.new.self c.args.at (length c.args.bytes.now) c.write_at.ensures.called.time c.write_at.ensures.images)
    c.sync.ensures.called.time c.sync.ensures.images

pub returns-clause-calls : goal.returns-clause-calls
returns-clause-calls g c =
    let old = c.args.disk.now in
    let mid = c.write_at.new.self in
    let new = c.sync.new.self in
    let step = WriteStep c.args.at c.args.bytes.now in
    let called = c.write_at.ensures.called in
    let synced = c.sync.ensures.called in
    let wrote : c.write_at.result ≡ Done = search rules in
    run_more g.D.Disk.calls g.D.Disk.makes (step ∷ []) (SyncStep ∷ []) old mid new (is_done c.sync.result)
    (one_done g.D.Disk.calls g.D.Disk.makes step _ old mid (ap (WriteCall c.args.at c.args.bytes.now) wrote) called.call called.change)
    (sync_ran g.D.Disk.calls g.D.Disk.makes c.sync.result mid new synced.call synced.change)
