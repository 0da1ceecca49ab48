use Rattle.std.proofs.Common.{arith}
use Rattle.std.proofs.lemmas.Grind.{common_steps}
use Rattle.frac_text.specs.Digits.{number}
use Rattle.frac_text.proofs.Runs.{number_after-le}
use Rattle.frac_text.proofs.Sizes.{number_after-append}
use Rattle.frac_text.proofs.digits.joined_number.Goals as goal

pub returns-in_err-front : goal.returns-in_err-front
returns-in_err-front c =
    let both = number_after-append 0 c.args.whole.now c.args.behind.now in
    let more = number_after-le (number c.args.whole.now) c.args.behind.now in
    grind (arith, common_steps, both, more)

pub returns : goal.returns
returns c = let both = number_after-append 0 c.args.whole.now c.args.behind.now in grind (arith, common_steps, both)
