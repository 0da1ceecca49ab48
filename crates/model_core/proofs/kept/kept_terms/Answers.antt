use Rattle.frac128.specs.Lowest.{IsKept}
use Rattle.model_core.specs.declared.change.NamedTerm.{NamedTerm}
use Rattle.model_core.proofs.Fresh.{AllWithin-item}
use Rattle.model_core.proofs.kept.kept_terms.Goals as goal

pub loop-term-preserved : goal.loop-term-preserved
loop-term-preserved c =
    AllWithin-item (λ (t : NamedTerm). IsKept t.coef) _ _ _ c.loop-term-test.true c.term-item.is c.kept.ensures c.loop-term.invariant
