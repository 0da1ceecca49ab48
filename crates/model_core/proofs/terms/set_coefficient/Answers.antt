use Rattle.std.proofs.Common.{◌∙◌, sym}
use Rattle.model_core.proofs.Spots.{left_out, put_in, replaced, taken_away}
use Rattle.model_core.proofs.terms.set_coefficient.Goals as goal

pub returns-then-spot-clause-ok : goal.returns-then-spot-clause-ok
returns-then-spot-clause-ok c =
    let there = c.spot_of-spot.ensures.there c.if-spot.true in
    let place = c.spot_of-spot.result.place in
    let same = c.as_slice.ensures.value in
    c.remove.ensures.items
    ∙ sym (taken_away c.args.var c.args.coef c.args.terms.now.items place (rw same at there) (sym c.is_zero.ensures ∙ c.if-is_zero.true))

pub returns-else-spot-clause-ok : goal.returns-else-spot-clause-ok
returns-else-spot-clause-ok c =
    let missing = c.spot_of-spot.ensures.missing c.if-spot.false in
    sym (left_out c.args.var c.args.coef c.args.terms.now.items c.spot_of-spot.result.place (rw c.as_slice.ensures.value at missing)
    (sym c.is_zero.ensures ∙ c.if-is_zero.true))

pub returns-then-spot-2-clause-ok : goal.returns-then-spot-2-clause-ok
returns-then-spot-2-clause-ok c =
    let there = c.spot_of-spot.ensures.there c.if-spot-2.true in
    sym (replaced c.args.var c.args.coef c.args.terms.now.items c.spot_of-spot.result.place (rw c.as_slice.ensures.value at there)
    (sym c.is_zero.ensures ∙ c.if-is_zero.false))

pub returns-in_ok-insert-clause-ok : goal.returns-in_ok-insert-clause-ok
returns-in_ok-insert-clause-ok c =
    let missing = c.spot_of-spot.ensures.missing c.if-spot-2.false in
    let put = put_in c.args.var c.args.coef c.args.terms.now.items c.spot_of-spot.result.place (rw c.as_slice.ensures.value at missing)
    (sym c.is_zero.ensures ∙ c.if-is_zero.false) in
    let inserted = c.in_ok-insert.ensures.items in
    inserted ∙ sym put
