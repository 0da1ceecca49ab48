use Rattle.std.proofs.Common.{◌∙◌, ap, sym, subst, ◌≡◌, ℤ, List, Some, OnOk, if◌then◌else◌, neg_ℤ, w8}
use Rattle.std.specs.HashMap.{Updates, get}
use Rattle.std.proofs.lemmas.Int.{to_z-of_z}
use Rattle.base_names.specs.contracts.node.WaiterPartialEq.TheImpl as derived
use Rattle.cluster_defs.specs.Cluster.{Waiting}
use Rattle.cluster_defs.specs.Placement.{enqueue}
use Rattle.node_sched.specs.Schedule.{times_waiting}
use Rattle.node_sched.specs.Turns.{waiting_in}
use Rattle.node_sched.proofs.Turns.{kept_come, pushed_is_enqueued}
use Rattle.node_sched.proofs.waiting_list.WaitingList.push.Goals as goal

pub invariant_of-self-2 : goal.invariant_of-self-2
invariant_of-self-2 c =
    let updates = subst (λ r. OnOk r (Updates derived.ghosts.eq c.reserve.new.self c.insert-put.new.self c.args.waiter.now (Some c.of-turn.result))) c.unwrap-none.ensures c.insert-put.ensures.updates in
    kept_come c.self.inside.entries.entries c.insert.new.self.entries (get derived.ghosts.eq c.self.inside.turns) (get derived.ghosts.eq c.insert-put.new.self) c.args.waiter.now c.of-turn.result c.args.priority c.self.inside.arrivals c.self.invariant (c.of-turn.ensures ∙ ap (λ (p : ℤ). record { behind = neg_ℤ p; arrival = c.self.inside.arrivals }) (to_z-of_z w8 c.args.priority c.ranges.priority)) c.requires.highest
    (subst (λ (l : List Waiting). times_waiting c.args.waiter.now l ≡ 0) (sym c.self.view_is) c.requires.waits_not)
    (λ v. updates.0 v ∙ ap (λ (o : _). if derived.ghosts.eq c.args.waiter.now v then Some c.of-turn.result else o) (c.reserve.ensures.entries.2 v))
    c.in_ok-insert.ensures.entries c.in_ok-insert.ensures.ordered

pub returns-clause-ok : goal.returns-clause-ok
returns-clause-ok c = ap waiting_in c.in_ok-insert.ensures.entries ∙ pushed_is_enqueued c.self.inside.entries.entries _ c.args.waiter.now c.of-turn.result c.args.priority c.self.inside.arrivals c.self.invariant (c.of-turn.ensures ∙ ap (λ (p : ℤ). record { behind = neg_ℤ p; arrival = c.self.inside.arrivals }) (to_z-of_z w8 c.args.priority c.ranges.priority)) ∙ ap (enqueue record { waiter = c.args.waiter.now; priority = c.args.priority }) c.self.view_is
