use Rattle.std.proofs.Common.{◌≡◌, ◌∙◌, ◌+◌, arith, sym, ap, subst, List, length, length-append, ◌∷◌, []}
use Rattle.base_names.specs.declared.node.NodeLine.{NodeLine}
use Rattle.base_names.specs.declared.node.Placed.{Placed}
use Rattle.cluster_defs.specs.Cluster.{Waiting}
use Rattle.cluster_defs.specs.Placement.{dequeue}
use Rattle.node_sched.specs.Counts.{AreCounted}
use Rattle.node_sched.proofs.Counts.{best_number}
use Rattle.node_sched.proofs.Goes.{kept_placed}
use Rattle.node_sched.proofs.Steps.{after_placed, fits_at, room_first, runs_not, waits_first}
use Rattle.node_sched.proofs.nodes.Nodes.place_one.Goals as goal

pub push-requires-clause-runs_not : goal.push-requires-clause-runs_not
push-requires-clause-runs_not c = runs_not c.args.urgent c.in-Some.waiter c.self.inside.waiting c.self.inside.running c.self.inside.lines.items c.self.invariant c.in-Some.ensures

pub push-requires-clause-room : goal.push-requires-clause-room
push-requires-clause-room c = room_first c.args.urgent c.in-Some.waiter c.self.inside.waiting c.self.inside.running c.self.inside.lines.items c.self.invariant c.in-Some.ensures

pub add_one-requires-clause-node : goal.add_one-requires-clause-node
add_one-requires-clause-node c = let h = best_number c.args.urgent 0 c.self.inside.lines.items c.in-Some-best_of.line c.self.invariant.numbered (sym c.in-Some-best_of.ensures) in (omega (arith, h.0), omega (arith, h.1))

pub add_one-requires-clause-fits : goal.add_one-requires-clause-fits
add_one-requires-clause-fits c =
    let p : Placed = record { waiter = c.in-Some.waiter; node = c.in-Some-best_of.line.node } in
    let more : length c.push.new.self.placed ≡ length c.self.inside.running.placed + length (p ∷ []) = ap (λ (l : List Placed). length l) c.push.ensures.placed ∙ length-append c.self.inside.running.placed (p ∷ []) in
    fits_at c.in-Some-best_of.line.node c.self.inside.waiting c.self.inside.running c.self.inside.lines.items c.self.invariant (omega (arith, more, c.push.ensures.small))

pub invariant_of-self : goal.invariant_of-self
invariant_of-self c =
    subst (λ (ws : List Waiting). AreCounted ws c.push.new.self c.add_one.new.lines.items) (sym c.remove.ensures.list)
    (subst (λ (ls : List NodeLine). AreCounted (dequeue c.in-Some.waiter c.self.inside.waiting) c.push.new.self ls) (sym c.add_one.ensures)
    (kept_placed c.self.inside.waiting c.self.inside.running c.push.new.self c.self.inside.lines.items c.in-Some.waiter c.in-Some-best_of.line c.args.urgent c.self.invariant
    (waits_first c.args.urgent c.in-Some.waiter c.self.inside.waiting c.in-Some.ensures) (sym c.in-Some-best_of.ensures) c.push.ensures.placed c.push.ensures.room))

pub returns-in-Some-best_of-clause-schedule : goal.returns-in-Some-best_of-clause-schedule
returns-in-Some-best_of-clause-schedule c =
    after_placed c.args.urgent c.in-Some.waiter c.in-Some-best_of.line c.self.inside.waiting c.remove.new.self c.self.inside.running c.push.new.self c.self.inside.lines.items c.add_one.new.lines.items c.args.self.now c.self.invariant c.self.view_is c.in-Some.ensures c.in-Some-best_of.ensures
    c.remove.ensures.list c.push.ensures.placed c.add_one.ensures
