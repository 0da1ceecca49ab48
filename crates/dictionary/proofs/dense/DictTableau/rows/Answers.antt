use Rattle.std.proofs.Common.{subst}
use Rattle.dictionary.specs.Dictionary.{IsInShape}
use Rattle.dictionary.proofs.Filled.{shape_of_filled}
use Rattle.dictionary.proofs.dense.DictTableau.rows.Goals as goal

pub returns-clause-shape : goal.returns-clause-shape
returns-clause-shape c = subst IsInShape c.self.view_is (shape_of_filled c.self.inside c.self.invariant)
