use Rattle.std.proofs.Common.{sym}
use Rattle.std.proofs.lemmas.Result.{IfOk-weaker}
use Rattle.branch_tree.proofs.Bounded.{bounded_by_turn}
use Rattle.branch_tree.proofs.solving.Solving.advance.Goals as goal

pub returns-clause-bounds : goal.returns-clause-bounds
returns-clause-bounds c =
    IfOk-weaker c.turn.result _ _
    (λ told tells before. bounded_by_turn c.model.result.now c.args.self.now c.turn.new.self told c.requires.0 (sym c.model.ensures) c.requires.1 (tells c.requires.0 c.requires.1) before)
    c.turn.ensures.turn
