use Rattle.std.proofs.Common.{arith, ◌++◌}
use Rattle.std.proofs.lemmas.Grind.{common_steps}
use Rattle.frac_text.specs.Digits.{number}
use Rattle.frac_text.proofs.Outcomes.{tens_over-le}
use Rattle.frac_text.proofs.parts.decimal_parts.Goals as goal

pub returns-in_err-number : goal.returns-in_err-number
returns-in_err-number c =
    let more = tens_over-le (number (c.args.whole.now ++ c.args.behind.now)) c.args.tens in
    grind (arith, common_steps, more)
