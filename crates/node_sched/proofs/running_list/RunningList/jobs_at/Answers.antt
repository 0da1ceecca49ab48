use Rattle.std.proofs.Common.{◌∙◌, ◌++◌, ap, sym, take, List, [], ◌∷◌}
use Rattle.std.proofs.lemmas.List.{take_more}
use Rattle.base_names.specs.declared.node.Waiter.{Waiter}
use Rattle.node_sched.specs.declared.slot.Slot.{Slot}
use Rattle.node_sched.specs.Schedule.{jobs_at}
use Rattle.node_sched.specs.Slots.{placed_in}
use Rattle.node_sched.proofs.Slots.{jobs_more}
use Rattle.node_sched.proofs.running_list.RunningList.jobs_at.Goals as goal

pub loop-slot-preserved : goal.loop-slot-preserved
loop-slot-preserved c =
    let xs = c.deref-slot-items.result.now in
    let i = c.loop-slot.slot-index in
    let s = c.slot-item.result in
    c.in_ok-push_job.ensures
    ∙ ap (λ (l : List Waiter). l ++ jobs_at c.args.node (placed_in (s ∷ []))) c.loop-slot.invariant
    ∙ sym (ap (λ (l : List Slot). jobs_at c.args.node (placed_in l)) (take_more xs i s c.loop-slot-test.true ∙ ap (λ (x : Slot). take i xs ++ x ∷ []) (sym c.slot-item.is)) ∙ jobs_more c.args.node (take i xs) s)
