use Rattle.std.proofs.Common.{rules, refl, sym, subst, arith, ap, ap₂, ◌≡◌, ◌∙◌, ◌+◌, ◌-◌, ◌^◌, ◌<◌, ◌≤◌, length, Err, Result, List, ℕ}
use Rattle.std.specs.Prelude.{IsErrOf}
use Rattle.base_names.specs.Outside.{Rose}
use Rattle.disk_model.specs.Moments.{LeavesOnly}
use Rattle.journal.specs.Plans.{FailedAdding}
use Rattle.journal.specs.Standing.{WhileAdding, bodies_of, doubt_of}
use Rattle.hub_core.proofs.Kept.{failed_answered, failed_stands, fits_in, kept_asked, kept_stands}
use Rattle.hub_core.proofs.hub.Hub.append.Goals as goal

pub returns-in-Ok-clause-stands : goal.returns-in-Ok-clause-stands
returns-in-Ok-clause-stands g c = kept_stands c.records_are_spelled_once.ensures c.lawful_records_are_told_apart.ensures.fits g.D.Disk.name g.D.Disk.moment g.D.Disk.left g.D.Disk.calls g.D.Disk.makes g.D.Disk.faults
    c.args.self.now c.admit.new.self c.append.new.self c.requires.stands c.args.seat.now c.args.id.now c.args.body c.args.text.now c.args.bytes c.faults-before.result c.faults-after.result c.requires.free
    c.requires.creates c.requires.text c.requires.lawful c.faults-before.ensures c.faults-after.ensures c.append.ensures.stands c.append.ensures.rest.0 c.admit.ensures.rest.0 c.admit.ensures.rest.1 c.append.ensures.same (search rules)
    c.in-Ok.ensures.steady (search rules) (search rules) (search rules) c.admit.ensures.admitted

pub returns-in-Ok-clause-asked : goal.returns-in-Ok-clause-asked
returns-in-Ok-clause-asked g c = kept_asked c.records_are_spelled_once.ensures c.lawful_records_are_told_apart.ensures.fits g.D.Disk.name g.D.Disk.moment g.D.Disk.left g.D.Disk.calls g.D.Disk.makes g.D.Disk.faults
    c.args.self.now c.admit.new.self c.append.new.self c.requires.stands c.args.seat.now c.args.id.now c.args.body c.args.text.now c.args.bytes c.faults-before.result c.faults-after.result c.requires.free
    c.requires.creates c.requires.text c.requires.lawful c.faults-before.ensures c.faults-after.ensures c.append.ensures.stands c.append.ensures.rest.0 c.admit.ensures.rest.0 c.admit.ensures.rest.1 c.append.ensures.same (search rules)
    c.in-Ok.ensures.steady (search rules) (search rules) (search rules) c.admit.ensures.admitted (search rules)

pub returns-in-Err-clause-stands : goal.returns-in-Err-clause-stands
returns-in-Err-clause-stands g c =
    let e : c.as_bytes.result.now ≡ c.args.text.now = c.as_bytes.ensures in
    let run : LeavesOnly g.D.Disk.moment g.D.Disk.left c.args.self.now.journal.disk c.append.new.self.disk (WhileAdding (bodies_of c.args.self.now.journal) (doubt_of c.args.self.now.journal) c.args.text.now) = search rules in
    let fits : c.args.self.now.journal.end + 5 + length c.args.text.now ≤ c.args.self.now.journal.limit = fits_in c.records_are_spelled_once.ensures c.lawful_records_are_told_apart.ensures.fits g.D.Disk.name g.D.Disk.moment g.D.Disk.left g.D.Disk.calls g.D.Disk.makes g.D.Disk.faults
    c.args.self.now c.note.new.self c.append.new.self c.requires.stands c.args.seat.now c.args.id.now c.args.body c.args.text.now c.args.bytes c.faults-before.result c.faults-after-in-Err.result c.requires.free
    c.requires.creates c.requires.text c.requires.lawful c.faults-before.ensures c.faults-after-in-Err.ensures c.append.ensures.stands c.append.ensures.rest.0 c.note.ensures.rest.0 c.note.ensures.rest.2 c.append.ensures.same run in
    let both = c.in-Err.ensures.fits (omega (arith, fits, ap length e)) in
    let rose : Rose (g.D.Disk.faults c.args.self.now.journal.disk) (g.D.Disk.faults c.append.new.self.disk) = c.append.ensures.failed (c.in-Err.is ∙ both.0) in
    let failed : FailedAdding g.D.Disk.calls g.D.Disk.makes (doubt_of c.args.self.now.journal) c.args.self.now.journal.end c.args.text.now (doubt_of c.append.new.self) c.args.self.now.journal.disk c.append.new.self.disk
    = subst (λ (t : List ℕ). FailedAdding g.D.Disk.calls g.D.Disk.makes (doubt_of c.args.self.now.journal) c.args.self.now.journal.end t (doubt_of c.append.new.self) c.args.self.now.journal.disk c.append.new.self.disk) e both.1 in
    failed_stands c.records_are_spelled_once.ensures c.lawful_records_are_told_apart.ensures.fits g.D.Disk.name g.D.Disk.moment g.D.Disk.left g.D.Disk.calls g.D.Disk.makes g.D.Disk.faults
    c.args.self.now c.note.new.self c.append.new.self c.requires.stands c.args.seat.now c.args.id.now c.args.body c.args.text.now c.args.bytes c.faults-before.result c.faults-after-in-Err.result c.requires.free
    c.requires.creates c.requires.text c.requires.lawful c.faults-before.ensures c.faults-after-in-Err.ensures c.append.ensures.stands c.append.ensures.rest.0 c.note.ensures.rest.0 c.note.ensures.rest.2 c.append.ensures.same run
    c.requires.told rose c.in-Err.ensures.err.0 c.in-Err.ensures.err.1 failed c.note.ensures.noted

pub returns-in-Err-clause-asked : goal.returns-in-Err-clause-asked
returns-in-Err-clause-asked g c =
    let e : c.as_bytes.result.now ≡ c.args.text.now = c.as_bytes.ensures in
    let run : LeavesOnly g.D.Disk.moment g.D.Disk.left c.args.self.now.journal.disk c.append.new.self.disk (WhileAdding (bodies_of c.args.self.now.journal) (doubt_of c.args.self.now.journal) c.args.text.now) = search rules in
    let fits : c.args.self.now.journal.end + 5 + length c.args.text.now ≤ c.args.self.now.journal.limit = fits_in c.records_are_spelled_once.ensures c.lawful_records_are_told_apart.ensures.fits g.D.Disk.name g.D.Disk.moment g.D.Disk.left g.D.Disk.calls g.D.Disk.makes g.D.Disk.faults
    c.args.self.now c.note.new.self c.append.new.self c.requires.stands c.args.seat.now c.args.id.now c.args.body c.args.text.now c.args.bytes c.faults-before.result c.faults-after-in-Err.result c.requires.free
    c.requires.creates c.requires.text c.requires.lawful c.faults-before.ensures c.faults-after-in-Err.ensures c.append.ensures.stands c.append.ensures.rest.0 c.note.ensures.rest.0 c.note.ensures.rest.2 c.append.ensures.same run in
    let both = c.in-Err.ensures.fits (omega (arith, fits, ap length e)) in
    let rose : Rose (g.D.Disk.faults c.args.self.now.journal.disk) (g.D.Disk.faults c.append.new.self.disk) = c.append.ensures.failed (c.in-Err.is ∙ both.0) in
    let failed : FailedAdding g.D.Disk.calls g.D.Disk.makes (doubt_of c.args.self.now.journal) c.args.self.now.journal.end c.args.text.now (doubt_of c.append.new.self) c.args.self.now.journal.disk c.append.new.self.disk
    = subst (λ (t : List ℕ). FailedAdding g.D.Disk.calls g.D.Disk.makes (doubt_of c.args.self.now.journal) c.args.self.now.journal.end t (doubt_of c.append.new.self) c.args.self.now.journal.disk c.append.new.self.disk) e both.1 in
    failed_answered c.records_are_spelled_once.ensures c.lawful_records_are_told_apart.ensures.fits g.D.Disk.name g.D.Disk.moment g.D.Disk.left g.D.Disk.calls g.D.Disk.makes g.D.Disk.faults
    c.args.self.now c.note.new.self c.append.new.self c.requires.stands c.args.seat.now c.args.id.now c.args.body c.args.text.now c.args.bytes c.faults-before.result c.faults-after-in-Err.result c.requires.free
    c.requires.creates c.requires.text c.requires.lawful c.faults-before.ensures c.faults-after-in-Err.ensures c.append.ensures.stands c.append.ensures.rest.0 c.note.ensures.rest.0 c.note.ensures.rest.2 c.append.ensures.same run
    c.requires.told rose c.in-Err.ensures.err.0 c.in-Err.ensures.err.1 failed c.note.ensures.noted
