use Rattle.frac128.proofs.Seen.{seen}
use Rattle.frac128.proofs.fractions.Frac.kept.Goals as goal

pub returns : goal.returns
returns c = (seen _ _ _ c.self.view_is c.self.invariant).kept
