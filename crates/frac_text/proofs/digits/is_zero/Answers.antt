use Rattle.std.proofs.Common.{arith}
use Rattle.std.proofs.lemmas.Grind.{common_steps}
use Rattle.frac_text.proofs.Sizes.{number-zeros, digits-zero}
use Rattle.frac_text.proofs.digits.is_zero.Goals as goal

pub returns : goal.returns
returns c =
    let zeros = number-zeros c.args.digits.now in
    let none = digits-zero c.args.digits.now c.requires in
    grind (arith, common_steps, zeros, none)
