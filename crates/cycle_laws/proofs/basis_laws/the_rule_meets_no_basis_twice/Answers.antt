use Rattle.cycle_laws.proofs.Kept.{path_sound}
use Rattle.cycle_laws.proofs.NoCycle.{no_basis_twice}
use Rattle.cycle_laws.proofs.basis_laws.the_rule_meets_no_basis_twice.Goals as goal

pub returns : goal.returns
returns c d e f n k lawful constants first more = let sound = path_sound lawful constants first in no_basis_twice e f k sound.lawful sound.constants more
