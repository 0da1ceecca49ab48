use Rattle.std.proofs.Common.{◌∙◌}
use Rattle.frac128.proofs.Results.{IsLowest-inverse, inverse-parts}
use Rattle.frac128.proofs.Seen.{seen}
use Rattle.frac128.proofs.fractions.Frac.inverse.Goals as goal

pub from_parts-requires : goal.from_parts-requires
from_parts-requires c =
    let own = seen _ _ _ c.self.view_is c.self.invariant in
    rw (own.den, c.unsigned_abs.ensures.value, own.num) (IsLowest-inverse c.args.self.now c.requires own.kept)

pub returns : goal.returns
returns c =
    let own = seen _ _ _ c.self.view_is c.self.invariant in
    let made = rw (own.den, c.unsigned_abs.ensures.value, own.num) at c.from_parts.ensures in
    made ∙ inverse-parts c.args.self.now
