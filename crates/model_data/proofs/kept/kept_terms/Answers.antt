use Rattle.frac128.specs.Lowest.{IsKept}
use Rattle.model_data.specs.declared.model.Term.{Term}
use Rattle.model_data.proofs.Items.{AllWithin-item}
use Rattle.model_data.proofs.kept.kept_terms.Goals as goal

pub loop-term-preserved : goal.loop-term-preserved
loop-term-preserved c =
    AllWithin-item (λ (t : Term). IsKept t.coef) _ _ _ c.loop-term-test.true c.term-item.is c.kept.ensures c.loop-term.invariant
