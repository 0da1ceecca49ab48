use Rattle.std.proofs.Common.{◌≡◌, ◌∙◌, sym, ap, of_z, to_z}
use Rattle.std.specs.Int.{w128}
use Rattle.frac128.specs.Fraction.{den}
use Rattle.frac128.proofs.Comparison.{int_cmp-rests, int_cmp-whole}
use Rattle.frac128.proofs.Seen.{same_read, seen}
use Rattle.frac128.proofs.fractions.Frac.cmp.Goals as goal

pub returns-then-whole-other_whole : goal.returns-then-whole-other_whole
returns-then-whole-other_whole c =
    let own = seen _ _ _ c.self.view_is c.self.invariant in
    let others = seen _ _ _ c.other.view_is c.other.invariant in
    let whole = same_read c.whole_and_rest-whole.result.0 c.whole_and_rest-whole.ensures.fits in
    let other_whole = same_read c.whole_and_rest-other_whole.result.0 c.whole_and_rest-other_whole.ensures.fits in
    let parts = rw (own.num, own.den) at c.whole_and_rest-whole.ensures.parts in
    let other_parts = rw (others.num, others.den) at c.whole_and_rest-other_whole.ensures.parts in
    let rest = rw own.den at c.whole_and_rest-whole.ensures.rest in
    let other_rest = rw others.den at c.whole_and_rest-other_whole.ensures.rest in
    let made = rw (whole, other_whole) at c.cmp.ensures in
    made
    ∙ int_cmp-whole _ _ c.args.self.now.num c.args.other.now.num _ _ (den c.args.self.now) (den c.args.other.now) rest other_rest parts other_parts
    (λ e. c.if-whole-other_whole.true (ap (of_z w128) e))

pub returns : goal.returns
returns c =
    let own = seen _ _ _ c.self.view_is c.self.invariant in
    let others = seen _ _ _ c.other.view_is c.other.invariant in
    let whole = same_read c.whole_and_rest-whole.result.0 c.whole_and_rest-whole.ensures.fits in
    let other_whole = same_read c.whole_and_rest-other_whole.result.0 c.whole_and_rest-other_whole.ensures.fits in
    let parts = rw (own.num, own.den) at c.whole_and_rest-whole.ensures.parts in
    let other_parts = rw (others.num, others.den) at c.whole_and_rest-other_whole.ensures.parts in
    let same : c.whole_and_rest-other_whole.result.0 ≡ c.whole_and_rest-whole.result.0 =
    sym other_whole ∙ ap (to_z w128) (sym c.if-whole-other_whole.false) ∙ whole in
    let other_parts_too = rw same at other_parts in
    let made = rw (own.den, others.den) at c.cmp_rests.ensures in
    made
    ∙ int_cmp-rests c.whole_and_rest-whole.result.0 c.args.self.now.num c.args.other.now.num _ _ (den c.args.self.now) (den c.args.other.now) parts other_parts_too
