use Rattle.std.proofs.Common.{◌∙◌, ap, arith, rules}
use Rattle.std.specs.Map.{lookup}
use Rattle.std.proofs.lemmas.Fn.{filter_same}
use Rattle.std.proofs.lemmas.Map.Made.{filter_same_pairs}
use Rattle.base_names.specs.contracts.node.WaiterPartialEq.TheImpl as derived
use Rattle.base_names.specs.declared.node.Waiter.{Waiter}
use Rattle.node_sched.specs.declared.slot.Spot.{Spot}
use Rattle.node_sched.specs.Runs.{Runs, without_node}
use Rattle.node_sched.specs.Slots.{elsewhere, is_away, placed_in}
use Rattle.node_sched.proofs.Slots.{found_away, placed_elsewhere, slots_away}
use Rattle.node_sched.proofs.running_list.RunningList.take_away.Goals as goal

pub invariant_of-self : goal.invariant_of-self
invariant_of-self c =
    let kept = filter_same _ (elsewhere c.args.node) _ (λ x b f' k. search rules) _ _ c.retain.ensures.filtered in
    let spots = filter_same_pairs _ (λ (e : Waiter × Spot). is_away c.args.node e.1) _ (λ k v b w f' t. search rules) _ _ c.retain-2.ensures.filtered in
    (slots_away c.self.inside.slots.items c.retain.new.self.items _ _ c.args.node c.self.inside.next c.self.inside.room c.self.invariant.0 (λ u. ap (lookup (derived.ghosts.eq u)) spots ∙ found_away c.args.node c.self.inside.spots.entries u c.retain-2.ensures.was_unique) kept, omega (arith, c.retain.ensures.bound, c.retain.ensures.capacity, c.self.invariant.1), omega (arith, c.retain-2.ensures.spare, c.self.invariant.2))

pub returns-clause-placed : goal.returns-clause-placed
returns-clause-placed c =
    let kept = filter_same _ (elsewhere c.args.node) _ (λ x b f' k. search rules) _ _ c.retain.ensures.filtered in
    ap placed_in kept ∙ placed_elsewhere c.args.node c.self.inside.slots.items ∙ ap (λ (r : Runs). without_node c.args.node r.placed) c.self.view_is
