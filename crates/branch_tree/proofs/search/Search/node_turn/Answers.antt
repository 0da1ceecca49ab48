use Rattle.std.proofs.Common.{◌≡◌, ◌∙◌, sym, ap, subst, rules}
use Rattle.std.proofs.lemmas.Result.{IfOk-weaker}
use Rattle.bland_rule.specs.Comes.{coming_of, entering_of}
use Rattle.bland_rule.specs.declared.entering.Coming.TheVariants.{End, Pivot}
use Rattle.solve_defs.specs.Path.{Coming, a_pivot, an_end, coming}
use Rattle.solve_defs.specs.Plain.{Turn, node_turn}
use Rattle.branch_tree.specs.Findings.{turn_by}
use Rattle.branch_tree.specs.Stage.{Makes}
use Rattle.branch_tree.proofs.search.Search.node_turn.Goals as goal

pub returns-in-Pivot-clause-turn : goal.returns-in-Pivot-clause-turn
returns-in-Pivot-clause-turn c = λ node h.
    let now = c.args.self.now in
    let is : c.coming.result ≡ Pivot c.in-Pivot.entering = search rules in
    let comes : a_pivot (entering_of c.in-Pivot.entering) ≡ coming node.dictionary = ap coming_of (sym is) ∙ c.coming.ensures node h in
    subst (λ (k : Coming). Makes (node_turn now.model now.params now.search node k) c.pivot_turn.result now c.pivot_turn.new.self) comes (c.pivot_turn.ensures node h)

pub returns-in_ok-found-in-End-clause-turn : goal.returns-in_ok-found-in-End-clause-turn
returns-in_ok-found-in-End-clause-turn c =
    let now = c.args.self.now in
    let is : c.coming.result ≡ End c.in-End.end = search rules in
    IfOk-weaker c.finish.result _ _ (λ step law node h.
    let comes : an_end c.in-End.end ≡ coming node.dictionary = ap coming_of (sym is) ∙ c.coming.ensures node h in
    let found : turn_by now.model now.params now.search node.cuts c.in_ok-found-in-End.found ≡ node_turn now.model now.params now.search node (an_end c.in-End.end) = c.in_ok-found-in-End.ensures.turn node h in
    subst (λ (t : Turn). Makes t step now c.finish.new.self) (found ∙ ap (node_turn now.model now.params now.search node) comes) (law node h))
    c.finish.ensures.turn
