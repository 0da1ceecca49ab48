use Rattle.std.proofs.Common.{◌≡◌, ◌∙◌, sym, ap, subst, Some, is_some, true, rules}
use Rattle.branch_tree.specs.Stage.{Stage}
use Rattle.std.proofs.lemmas.Result.{IfOk-weaker}
use Rattle.solve_defs.specs.Plain.{Turn}
use Rattle.branch_tree.specs.Stage.{Makes}
use Rattle.branch_tree.proofs.Turned.{turn_here}
use Rattle.branch_tree.proofs.Underway.{node_some}
use Rattle.branch_tree.proofs.search.Search.turn.Goals as goal

pub node_turn-requires : goal.node_turn-requires
node_turn-requires c =
    let on : is_some c.self.inside.run ≡ true = search rules in
    let n = node_some c.self.inside.run c.self.inside.cases on in
    (n.0, sym (ap (λ (v : Stage). v.search.node) c.self.view_is) ∙ n.1)

pub returns-then-is_some-clause-turn : goal.returns-then-is_some-clause-turn
returns-then-is_some-clause-turn c =
    let now = c.args.self.now in
    let on : is_some c.self.inside.run ≡ true = search rules in
    let n = node_some c.self.inside.run c.self.inside.cases on in
    let h : now.search.node ≡ Some n.0 = sym (ap (λ (v : Stage). v.search.node) c.self.view_is) ∙ n.1 in
    IfOk-weaker c.node_turn.result _ _ (λ step law.
    subst (λ (t : Turn). Makes t step now c.node_turn.new.self) (turn_here now.model now.params now.search n.0 h) (law n.0 h))
    c.node_turn.ensures.turn
