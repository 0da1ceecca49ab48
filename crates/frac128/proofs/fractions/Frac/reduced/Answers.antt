use Rattle.std.proofs.Common.{◌∙◌, ◌/◌, ◌<◌, lt_of_le_of_lt}
use Rattle.std.proofs.Math.Nat.{div-le_self}
use Rattle.frac128.specs.Numbers.{gcd, limit}
use Rattle.frac128.proofs.Results.{IsLowest-reduced, reduced-parts}
use Rattle.frac128.proofs.fractions.Frac.reduced.Goals as goal

pub from_parts-requires : goal.from_parts-requires
from_parts-requires c =
    let g = gcd c.args.size c.args.den in
    let num : c.args.size / g < limit = lt_of_le_of_lt (div-le_self c.args.size g) c.requires.size_fits in
    let den : c.args.den / g < limit = lt_of_le_of_lt (div-le_self c.args.den g) c.requires.den_fits in
    rw (c.reduced_parts-size.ensures.num, c.reduced_parts-size.ensures.den)
    (IsLowest-reduced c.args.size c.args.den c.requires.den_above_zero num den)

pub returns : goal.returns
returns c =
    let made = rw (c.reduced_parts-size.ensures.num, c.reduced_parts-size.ensures.den) at c.from_parts.ensures in
    made ∙ reduced-parts c.args.is_negative c.args.size c.args.den c.requires.den_above_zero
