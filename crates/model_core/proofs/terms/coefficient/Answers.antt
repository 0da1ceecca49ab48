use Rattle.std.proofs.Common.{refl, ◌∙◌, sym, arith, nat_lt}
use Rattle.model_core.proofs.Spots.{by_order, coefficient-missing, coefficient-there}
use Rattle.model_core.proofs.terms.coefficient.Goals as goal

pub returns-then-spot : goal.returns-then-spot
returns-then-spot c =
    let there = c.spot_of-spot.ensures.there c.if-spot.true in
    let place = c.spot_of-spot.result.place in
    sym (coefficient-there c.args.var c.args.terms.now place c.index-terms-spot.result there.within there.before
    (there.is place c.index-terms-spot.result (omega arith) (omega arith)))

pub returns-else-spot : goal.returns-else-spot
returns-else-spot c =
    let missing = c.spot_of-spot.ensures.missing c.if-spot.false in
    let place = c.spot_of-spot.result.place in
    c.zero.ensures ∙ sym (coefficient-missing c.args.var c.args.terms.now (λ k d low high same.
    by_order k place (nat_lt k place) refl
    (λ lt. let e = missing.before k d (omega arith) lt in omega (arith, e, same))
    (λ le. let e = missing.behind k d le high in omega (arith, e, same))))
