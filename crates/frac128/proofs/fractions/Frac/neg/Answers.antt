use Rattle.frac128.proofs.Seen.{IsLowest-neg}
use Rattle.frac128.proofs.fractions.Frac.neg.Goals as goal

pub invariant_of-result : goal.invariant_of-result
invariant_of-result c = IsLowest-neg _ _ c.self.invariant
