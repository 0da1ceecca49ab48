use Rattle.std.proofs.Common.{ap₂, slice_set, ◌∙◌, ap, arith, sym, None}
use Rattle.std.specs.HashMap.{get}
use Rattle.base_names.specs.contracts.node.WaiterPartialEq.TheImpl as derived
use Rattle.node_sched.specs.Runs.{Runs, node_of, without_waiter}
use Rattle.node_sched.specs.Slots.{placed_in}
use Rattle.node_sched.proofs.Rule.{all_others}
use Rattle.node_sched.proofs.Slots.{no_node, no_slot, own_slot, slot_number, slots_emptied}
use Rattle.node_sched.proofs.running_list.RunningList.remove.Goals as goal

pub index_of-index-requires-clause-there : goal.index_of-index-requires-clause-there
index_of-index-requires-clause-there c = (own_slot c.self.inside.slots.items (get derived.ghosts.eq c.self.inside.spots) c.args.waiter.now c.in-Some.spot c.self.inside.next c.self.inside.room c.self.invariant.0 (sym c.in-Some.ensures.value)).there

pub index_mut-slot-requires : goal.index_mut-slot-requires
index_mut-slot-requires c = let there = (own_slot c.self.inside.slots.items (get derived.ghosts.eq c.self.inside.spots) c.args.waiter.now c.in-Some.spot c.self.inside.next c.self.inside.room c.self.invariant.0 (sym c.in-Some.ensures.value)).there in omega (arith, there, c.index_of-index.ensures, c.self.inside.slots.ok.0)

pub invariant_of-self : goal.invariant_of-self
invariant_of-self c =
    let f = get derived.ghosts.eq c.self.inside.spots in
    let own = own_slot c.self.inside.slots.items f c.args.waiter.now c.in-Some.spot c.self.inside.next c.self.inside.room c.self.invariant.0 (sym c.in-Some.ensures.value) in (
      slots_emptied c.self.inside.slots.items _ f _ c.args.waiter.now c.in-Some.spot (record { number = c.index_mut-slot.result.now.number; placed = None }) c.self.inside.next c.self.inside.room c.self.invariant.0 (sym c.in-Some.ensures.value)
          (ap (λ n. record { number = n; placed = None }) (slot_number c.in-Some.spot.number c.index_of-index.result c.self.inside.slots.items c.index_mut-slot.result.now c.index_of-index.ensures own.there c.index_mut-slot.ensures.value))
          c.remove.ensures.updates.0
          (ap (λ i. slice_set c.self.inside.slots.items i (record { number = c.index_mut-slot.result.now.number; placed = None })) c.index_of-index.ensures),
      c.self.invariant.1,
      omega (arith, c.remove.ensures.spare, c.self.invariant.2),
    )

pub returns-in-Some-clause-node : goal.returns-in-Some-clause-node
returns-in-Some-clause-node c = sym (own_slot c.self.inside.slots.items (get derived.ghosts.eq c.self.inside.spots) c.args.waiter.now c.in-Some.spot c.self.inside.next c.self.inside.room c.self.invariant.0 (sym c.in-Some.ensures.value)).node ∙ ap (λ (r : Runs). node_of c.args.waiter.now r.placed) c.self.view_is

pub returns-in-Some-clause-placed : goal.returns-in-Some-clause-placed
returns-in-Some-clause-placed c =
    let own = own_slot c.self.inside.slots.items (get derived.ghosts.eq c.self.inside.spots) c.args.waiter.now c.in-Some.spot c.self.inside.next c.self.inside.room c.self.invariant.0 (sym c.in-Some.ensures.value) in
    ap (λ (r : Runs). r.placed) c.compact_where_many.ensures
    ∙ ap₂ (λ i n. placed_in (slice_set c.self.inside.slots.items i (record { number = n; placed = None }))) c.index_of-index.ensures (slot_number c.in-Some.spot.number c.index_of-index.result c.self.inside.slots.items c.index_mut-slot.result.now c.index_of-index.ensures own.there c.index_mut-slot.ensures.value)
    ∙ own.left
    ∙ ap (λ (r : Runs). without_waiter c.args.waiter.now r.placed) c.self.view_is

pub returns-in-None-clause-node : goal.returns-in-None-clause-node
returns-in-None-clause-node c = sym (no_node c.args.waiter.now (placed_in c.self.inside.slots.items) (no_slot c.self.inside.slots.items (get derived.ghosts.eq c.self.inside.spots) c.args.waiter.now c.self.inside.next c.self.inside.room c.self.invariant.0 (sym c.in-None.ensures.value))) ∙ ap (λ (r : Runs). node_of c.args.waiter.now r.placed) c.self.view_is

pub returns-in-None-clause-placed : goal.returns-in-None-clause-placed
returns-in-None-clause-placed c = sym (all_others _ (placed_in c.self.inside.slots.items) (no_slot c.self.inside.slots.items (get derived.ghosts.eq c.self.inside.spots) c.args.waiter.now c.self.inside.next c.self.inside.room c.self.invariant.0 (sym c.in-None.ensures.value))) ∙ ap (λ (r : Runs). without_waiter c.args.waiter.now r.placed) c.self.view_is
