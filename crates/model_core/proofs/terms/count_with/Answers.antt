use Rattle.std.proofs.Common.{◌∙◌, sym, ap, arith, length}
use Rattle.std.proofs.lemmas.List.{length-set}
use Rattle.std.proofs.lemmas.List.Edits.{length-insert, length-remove}
use Rattle.model_core.proofs.Spots.{left_out, put_in, replaced, taken_away}
use Rattle.model_core.proofs.terms.count_with.Goals as goal

pub returns-then-zero-clause-count : goal.returns-then-zero-clause-count
returns-then-zero-clause-count c =
    let there = c.spot_of-spot.ensures.there c.if-spot.true in
    let place = c.spot_of-spot.result.place in
    let shorter = length-remove c.args.terms.now place there.within in
    let is = ap length (taken_away c.args.var c.args.coef.now c.args.terms.now place there (sym c.is_zero-zero.ensures ∙ c.if-zero.true)) in
    omega (arith, shorter, is)

pub returns-else-zero-clause-count : goal.returns-else-zero-clause-count
returns-else-zero-clause-count c =
    let there = c.spot_of-spot.ensures.there c.if-spot.true in
    let place = c.spot_of-spot.result.place in
    sym (ap length (replaced c.args.var c.args.coef.now c.args.terms.now place there (sym c.is_zero-zero.ensures ∙ c.if-zero.false))
    ∙ length-set c.args.terms.now place _)

pub returns-then-zero-2-clause-count : goal.returns-then-zero-2-clause-count
returns-then-zero-2-clause-count c =
    let missing = c.spot_of-spot.ensures.missing c.if-spot.false in
    sym (ap length (left_out c.args.var c.args.coef.now c.args.terms.now c.spot_of-spot.result.place missing (sym c.is_zero-zero.ensures ∙ c.if-zero-2.true)))

pub returns-else-zero-2-clause-count : goal.returns-else-zero-2-clause-count
returns-else-zero-2-clause-count c =
    let missing = c.spot_of-spot.ensures.missing c.if-spot.false in
    let place = c.spot_of-spot.result.place in
    let longer = length-insert c.args.terms.now place (record { var = c.args.var; coef = c.args.coef.now }) missing.within in
    let is = ap length (put_in c.args.var c.args.coef.now c.args.terms.now place missing (sym c.is_zero-zero.ensures ∙ c.if-zero-2.false)) in
    omega (arith, longer, is)
