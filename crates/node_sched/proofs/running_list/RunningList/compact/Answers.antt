use Rattle.std.proofs.Common.{◌∙◌, ap, arith, rules}
use Rattle.std.proofs.lemmas.Fn.{filter_same}
use Rattle.node_sched.specs.Slots.{is_full, placed_in}
use Rattle.node_sched.proofs.Slots.{placed_full, slots_full}
use Rattle.node_sched.proofs.running_list.RunningList.compact.Goals as goal

pub invariant_of-self : goal.invariant_of-self
invariant_of-self c =
    let kept = filter_same _ is_full _ (λ x b f' k. search rules) _ _ c.retain.ensures.filtered in
    (slots_full c.self.inside.slots.items c.retain.new.self.items _ c.self.inside.next c.self.inside.room c.self.invariant.0 kept, omega (arith, c.retain.ensures.bound, c.retain.ensures.capacity, c.self.invariant.1), c.self.invariant.2)

pub returns : goal.returns
returns c =
    let kept = filter_same _ is_full _ (λ x b f' k. search rules) _ _ c.retain.ensures.filtered in
    ap (λ ps. record { placed = ps; room = c.self.inside.room }) (ap placed_in kept ∙ placed_full c.self.inside.slots.items) ∙ c.self.view_is
