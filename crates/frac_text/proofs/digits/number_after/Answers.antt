use Rattle.std.proofs.Common.{arith}
use Rattle.std.proofs.lemmas.Grind.{common_steps}
use Rattle.frac_text.proofs.Runs.{AreDigits-at, number_after-drop_le}
use Rattle.frac_text.proofs.digits.number_after.Goals as goal

pub with_digit-requires-clause-at_least_zero : goal.with_digit-requires-clause-at_least_zero
with_digit-requires-clause-at_least_zero c = (AreDigits-at c.args.digits.now c.loop-digit.digit-index c.requires.are_digits c.loop-digit-test.true).at_least_zero

pub with_digit-requires-clause-at_most_nine : goal.with_digit-requires-clause-at_most_nine
with_digit-requires-clause-at_most_nine c = (AreDigits-at c.args.digits.now c.loop-digit.digit-index c.requires.are_digits c.loop-digit-test.true).at_most_nine

pub returns-in_err-number : goal.returns-in_err-number
returns-in_err-number c =
    let more = number_after-drop_le c.loop-digit.number c.args.digits.now c.loop-digit.digit-index c.loop-digit-test.true in
    grind (arith, common_steps, more)
