use Rattle.frac128.proofs.Seen.{IsFloor-parts, seen}
use Rattle.frac128.proofs.fractions.Frac.floor.Goals as goal

pub returns : goal.returns
returns c =
    let own = seen _ _ _ c.self.view_is c.self.invariant in
    let parts = rw (own.num, own.den) at c.whole_and_rest-whole.ensures.parts in
    let rest = rw own.den at c.whole_and_rest-whole.ensures.rest in
    IsFloor-parts c.args.self.now c.whole_and_rest-whole.result.0 _ parts rest c.whole_and_rest-whole.ensures.fits
