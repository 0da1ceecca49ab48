use Rattle.frac128.proofs.Seen.{IsLowest-sized}
use Rattle.frac128.proofs.fractions.Frac.from_parts.Goals as goal

pub invariant_of-result : goal.invariant_of-result
invariant_of-result c = IsLowest-sized c.signed.result _ _ c.signed.ensures.same_size c.requires
