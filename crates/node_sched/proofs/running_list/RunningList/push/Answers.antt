use Rattle.std.proofs.Common.{◌<◌, ◌∙◌, ap, arith, sym, subst, OnOk, Some}
use Rattle.std.specs.HashMap.{Updates, get}
use Rattle.base_names.specs.contracts.node.WaiterPartialEq.TheImpl as derived
use Rattle.node_sched.specs.Runs.{Runs}
use Rattle.node_sched.specs.Schedule.{times_running}
use Rattle.node_sched.proofs.Slots.{few_placed, pushed_placed, slots_pushed}
use Rattle.node_sched.proofs.running_list.RunningList.push.Goals as goal

pub invariant_of-self : goal.invariant_of-self
invariant_of-self c =
    let updates = subst (λ r. OnOk r (Updates derived.ghosts.eq c.self.inside.spots c.insert-put.new.self c.args.waiter.now (Some record { node = c.args.node; number = c.self.inside.next }))) c.unwrap-none.ensures c.insert-put.ensures.updates in
    let some : 0 < c.self.inside.room = subst (λ (r : Runs). 0 < r.room) (sym c.self.view_is) c.requires.room in (
      slots_pushed c.self.inside.slots.items c.push_reserved.new.self.items (get derived.ghosts.eq c.self.inside.spots) (get derived.ghosts.eq c.insert-put.new.self) c.args.waiter.now c.args.node c.self.inside.next c.self.inside.room c.self.invariant.0 some
          (ap (λ (r : Runs). times_running c.args.waiter.now r.placed) c.self.view_is ∙ c.requires.runs_not) c.push_reserved.ensures.items updates.0,
      omega (arith, some, c.push_reserved.ensures.len, c.push_reserved.ensures.capacity, c.self.invariant.1),
      omega (arith, some, c.insert-put.ensures.spare, c.self.invariant.2),
    )

pub returns-clause-placed : goal.returns-clause-placed
returns-clause-placed c = pushed_placed c.self.inside.slots.items c.push_reserved.new.self.items c.args.waiter.now c.args.node c.self.inside.next c.args.self.now.placed (ap (λ (r : Runs). r.placed) c.self.view_is) c.push_reserved.ensures.items

pub returns-clause-small : goal.returns-clause-small
returns-clause-small c = omega (arith, few_placed c.push_reserved.new.self.items, c.push_reserved.new.self.small, c.push_reserved.new.self.ok.0, c.push_reserved.new.self.ok.1)
