use Rattle.std.proofs.Common.{◌≡◌, ◌<◌, ◌≤◌, ◌-◌, ◌+◌, ℕ, length, drop, ap, sym, ◌∙◌, arith}
use Rattle.rec_format.specs.Orderly as defs
use Rattle.rec_format.proofs.InOrder.{terms_end, terms_step_at, terms_stop_at}
use Rattle.rec_format.proofs.orderly.are_terms_within.Goals as goal

pub returns-then-terms-left : goal.returns-then-terms-left
returns-then-terms-left c =
    let more : c.loop-row.left < length c.row-item.result.terms = omega (arith, c.if-terms-left.true, c.len-terms.ensures) in
    sym (terms_stop_at c.loop-row.left c.loop-row.row-index c.args.rows.now c.row-item.result c.loop-row-test.true c.row-item.is more) ∙ c.loop-row.invariant

pub loop-row-preserved : goal.loop-row-preserved
loop-row-preserved c =
    let fits : length c.row-item.result.terms ≤ c.loop-row.left = omega (arith, c.if-terms-left.false, c.len-terms.ensures) in
    ap (λ (n : ℕ). defs.are_terms_within (c.loop-row.left - n) (drop (c.loop-row.row-index + 1) c.args.rows.now)) c.len-terms.ensures
    ∙ (sym (terms_step_at c.loop-row.left c.loop-row.row-index c.args.rows.now c.row-item.result c.loop-row-test.true c.row-item.is fits) ∙ c.loop-row.invariant)

pub returns : goal.returns
returns c = sym (terms_end c.loop-row.left c.loop-row.row-index c.args.rows.now c.loop-row-test.false) ∙ c.loop-row.invariant
