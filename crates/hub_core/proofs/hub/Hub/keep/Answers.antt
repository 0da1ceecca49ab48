use Rattle.std.proofs.Common.{rules, refl, arith, sym, subst, ap, ◌∙◌, ◌≡◌, ◌<◌, ◌+◌, ℕ}
use Rattle.cluster_defs.specs.declared.ask.Ask.TheVariants.{Create}
use Rattle.cluster_defs.specs.Appended.{next_id}
use Rattle.hub_core.proofs.Answered.{memory_asked, no_result}
use Rattle.hub_core.proofs.Kept.{same_len}
use Rattle.hub_core.proofs.Steps.{numbers_left}
use Rattle.hub_core.proofs.hub.Hub.keep.Goals as goal
use Rattle.hub_core.specs.Answering.{Asked, IsCreation}
use Rattle.hub_core.specs.Sites.{site_of}
use Rattle.hub_core.specs.State.{State, state_of}
use Rattle.model_data.specs.declared.batch.BatchRecord.{BatchRecord}
use Rattle.model_data.specs.declared.batch.BatchRecord.TheVariants as batch
use Rattle.rec_format.specs.Records.{record_len}
use Rattle.table_defs.specs.Table.{Table, greatest}

pub overflow_add-number : goal.overflow_add-number
overflow_add-number g c =
    let left : greatest c.args.seat.now.owner c.args.self.now.table.table < 4294967295 = numbers_left (site_of no_result c.args.self.now.setup) (state_of c.args.self.now).store c.args.seat.now c.args.body (c.requires.taken no_result) in
    omega (arith, left, c.greatest-number.ensures)

pub prepare-requires-clause-bytes : goal.prepare-requires-clause-bytes
prepare-requires-clause-bytes g c = c.requires.bytes ∙ (same_len c.args.seat.now.owner 1 (c.greatest-number.result + 1) 1 c.args.body ∙ ap record_len (sym c.creation-created.ensures))

pub submit-requires-clause-creates : goal.submit-requires-clause-creates
submit-requires-clause-creates g c =
    subst (λ (x : State _). IsCreation x c.args.seat.now c.args.bytes c.creation-created.result) (sym c.prepare.ensures.same)
    (subst (λ (r : BatchRecord). IsCreation (state_of c.args.self.now) c.args.seat.now c.args.bytes r) (sym c.creation-created.ensures)
    (ap (λ (n : ℕ). record { owner = c.args.seat.now.owner; number = n + 1 }) c.greatest-number.ensures, refl, c.requires.bytes, c.requires.taken))

pub returns-in-Err-clause-asked : goal.returns-in-Err-clause-asked
returns-in-Err-clause-asked g c = memory_asked g.D.Disk.name g.D.Disk.moment g.D.Disk.left g.D.Disk.calls g.D.Disk.makes g.D.Disk.faults c.args.self.now c.requires.stands c.args.seat.now _ _ c.prepare.ensures.same

pub returns-in-Ok-clause-asked : goal.returns-in-Ok-clause-asked
returns-in-Ok-clause-asked g c =
    let is : c.creation-created.result ≡ batch.Create (next_id c.args.seat.now.owner c.prepare.new.self.table.table) 1 c.args.body
    = c.creation-created.ensures ∙ (ap (λ (n : ℕ). batch.Create (record { owner = c.args.seat.now.owner; number = n + 1 }) 1 c.args.body) c.greatest-number.ensures
    ∙ ap (λ (x : State _). batch.Create (next_id c.args.seat.now.owner x.store.table) 1 c.args.body) (sym c.prepare.ensures.same)) in
    subst (λ (x : State _). Asked g.D.Disk.name g.D.Disk.moment g.D.Disk.left g.D.Disk.calls g.D.Disk.makes g.D.Disk.faults x (state_of c.submit.new.self) c.args.seat.now (Create c.args.body) c.submit.result) c.prepare.ensures.same
    (c.submit.ensures.asked c.args.body is)
