use Rattle.std.proofs.Common.{◌∙◌, sym, ap, refl, subst, List, true}
use Rattle.base_names.specs.declared.node.NodeLine.{NodeLine}
use Rattle.cluster_defs.specs.Cluster.{Node}
use Rattle.cluster_defs.specs.Refusals.{has_node}
use Rattle.cluster_defs.specs.Waiters.{is_node}
use Rattle.node_sched.specs.Asked.{with_state}
use Rattle.node_sched.specs.Counts.{AreCounted, nodes_of}
use Rattle.node_sched.specs.Schedule.{Schedule}
use Rattle.node_sched.proofs.Counts.{nodes_of_changed, number_of}
use Rattle.node_sched.proofs.Goes.{kept_changed}
use Rattle.node_sched.proofs.nodes.Nodes.set_state.Goals as goal

pub set_state-requires-clause-node : goal.set_state-requires-clause-node
set_state-requires-clause-node c = number_of c.args.node c.self.inside.lines.items true c.self.invariant.numbered (ap (λ (s : Schedule). has_node c.args.node s.nodes) c.self.view_is ∙ sym c.if-not-has_node.ensures) refl

pub invariant_of-self : goal.invariant_of-self
invariant_of-self c =
    subst (AreCounted c.self.inside.waiting c.self.inside.running) (sym c.set_state.ensures)
    (kept_changed c.self.inside.waiting c.self.inside.running c.self.inside.lines.items c.args.node (λ (l : NodeLine). record l { state = c.args.state }) (λ (n : Node). record n { state = c.args.state }) c.self.invariant (λ l. refl) (λ l. refl) (λ n. refl))

pub returns-clause-ok : goal.returns-clause-ok
returns-clause-ok c =
    ap (λ (ns : List Node). record { waiting = c.self.inside.waiting; running = c.self.inside.running.placed; nodes = ns })
    (ap nodes_of c.set_state.ensures ∙ nodes_of_changed (is_node c.args.node) (λ (l : NodeLine). record l { state = c.args.state }) (λ (n : Node). record n { state = c.args.state }) (λ l. refl) c.self.inside.lines.items)
    ∙ ap (with_state c.args.node c.args.state) c.self.view_is
