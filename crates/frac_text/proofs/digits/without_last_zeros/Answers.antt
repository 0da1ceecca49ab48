use Rattle.std.proofs.Common.{arith, ap, sym, ◌∙◌, ◌≡◌, take}
use Rattle.frac_text.specs.Digits.{without_last_zeros}
use Rattle.frac_text.proofs.Runs.{without_last_zeros-zero, without_last_zeros-digit}
use Rattle.frac_text.proofs.digits.without_last_zeros.Goals as goal
use Rattle.frac_text.proofs.digits.without_last_zeros.Goals.{then-loop-len-test+else-digits-len-eq48, else-loop-len-test}

pub loop-len-preserved : goal.loop-len-preserved
loop-len-preserved c = record {
  in_range = omega arith;
  same = without_last_zeros-zero c.args.digits.now c.loop-len.len c.loop-len-test.true c.loop-len.invariant.in_range c.if-digits-len-eq48.true ∙ c.loop-len.invariant.same;
}

pub returns : goal.returns
returns c = elim c.loop-len-test.branch [
  | then-loop-len-test+else-digits-len-eq48 w ↦ sym (without_last_zeros-digit c.args.digits.now c.loop-len.len w.loop-len-test.true c.loop-len.invariant.in_range w.if-digits-len-eq48.false) ∙ c.loop-len.invariant.same
  | else-loop-len-test w ↦ let none : c.loop-len.len ≡ 0 = omega arith in let e = ap (λ n. take n c.args.digits.now) none in e ∙ (sym (ap without_last_zeros e) ∙ c.loop-len.invariant.same)
]
