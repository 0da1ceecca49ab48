use Rattle.std.proofs.Common.{rules, ◌∙◌, ap, get_or}
use Rattle.hub_core.proofs.MountingFold.{fold_step}
use Rattle.hub_core.proofs.mounting.fold.Goals as goal

pub loop-place-preserved : goal.loop-place-preserved
loop-place-preserved c =
    fold_step c.records_are_spelled_once.ensures c.lawful_records_are_told_apart.ensures.fits c.args.bodies.now.items c.loop-place.place c.body-item.result c.as_bytes.result.now c.loop-place.table.table c.take.new.table.table
    (search rules) (c.body-item.is ∙ ap (λ l. get_or l c.loop-place.place c.body-item.result) c.deref-body-items.ensures.value) c.as_bytes.ensures c.loop-place.invariant c.in-Yes.ensures
