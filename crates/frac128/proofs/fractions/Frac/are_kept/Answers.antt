use Rattle.std.proofs.Common.{◌∙◌, subst}
use Rattle.std.proofs.lemmas.List.{get_or_default}
use Rattle.std.proofs.lemmas.List.Elements.{AllWithin-more}
use Rattle.frac128.specs.Lowest.{IsKept}
use Rattle.frac128.proofs.fractions.Frac.are_kept.Goals as goal

pub loop-value-preserved : goal.loop-value-preserved
loop-value-preserved c =
    AllWithin-more IsKept _ 0 _ c.loop-value.invariant
    (λ d. subst IsKept (c.value-item.is ∙ get_or_default _ _ _ d c.loop-value-test.true) c.kept.ensures)
