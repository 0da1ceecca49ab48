use Rattle.std.proofs.Common.{◌<◌, arith}
use Rattle.frac128.proofs.Seen.{IsCeil-next, IsCeil-whole, seen}
use Rattle.frac128.proofs.fractions.Frac.ceil.Goals as goal

pub returns-then-rest-eq0 : goal.returns-then-rest-eq0
returns-then-rest-eq0 c =
    let own = seen _ _ _ c.self.view_is c.self.invariant in
    let parts = rw (own.num, own.den) at c.whole_and_rest-whole.ensures.parts in
    IsCeil-whole c.args.self.now c.whole_and_rest-whole.result.0 _ parts c.if-rest-eq0.true c.whole_and_rest-whole.ensures.fits

pub returns-else-rest-eq0 : goal.returns-else-rest-eq0
returns-else-rest-eq0 c =
    let own = seen _ _ _ c.self.view_is c.self.invariant in
    let parts = rw (own.num, own.den) at c.whole_and_rest-whole.ensures.parts in
    let rest = rw own.den at c.whole_and_rest-whole.ensures.rest in
    let some : 0 < c.whole_and_rest-whole.result.1 = omega arith in
    IsCeil-next c.args.self.now c.whole_and_rest-whole.result.0 _ parts some rest c.whole_and_rest-whole.ensures.fits own.kept.num_fits
