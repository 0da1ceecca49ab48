use Rattle.std.proofs.Common.{◌≡◌, sym, ◌∙◌}
use Rattle.rec_format.proofs.InOrder.{rising_end, rising_step_at, rising_stop_at}
use Rattle.rec_format.proofs.orderly.are_rising.Goals as goal

pub returns-then-not-is_next : goal.returns-then-not-is_next
returns-then-not-is_next c =
    sym (rising_stop_at c.loop-term.least c.args.vars c.loop-term.term-index c.args.terms.now c.term-item.result c.loop-term-test.true c.term-item.is (sym c.is_next.ensures ∙ c.if-not-is_next.true)) ∙ c.loop-term.invariant

pub loop-term-preserved : goal.loop-term-preserved
loop-term-preserved c =
    sym (rising_step_at c.loop-term.least c.args.vars c.loop-term.term-index c.args.terms.now c.term-item.result c.loop-term-test.true c.term-item.is (sym c.is_next.ensures ∙ c.if-not-is_next.false)) ∙ c.loop-term.invariant

pub returns : goal.returns
returns c = sym (rising_end c.loop-term.least c.args.vars c.loop-term.term-index c.args.terms.now c.loop-term-test.false) ∙ c.loop-term.invariant
