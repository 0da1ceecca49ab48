use Rattle.frac128.proofs.Seen.{seen}
use Rattle.frac128.proofs.fractions.Frac.den.Goals as goal

pub returns-clause-kept : goal.returns-clause-kept
returns-clause-kept c = (seen _ _ _ c.self.view_is c.self.invariant).kept
