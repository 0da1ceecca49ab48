use Rattle.std.proofs.Common.{arith}
use Rattle.std.proofs.lemmas.Grind.{common_steps}
use Rattle.frac_text.specs.Grammar.{AreDigits}
use Rattle.frac_text.proofs.Sizes.{number-short}
use Rattle.frac_text.proofs.reading.exponent_value.Goals as goal

pub returns-in_err-size-clause-value : goal.returns-in_err-size-clause-value
returns-in_err-size-clause-value c =
    let digits : AreDigits c.args.digits.now = grind (arith, common_steps) in
    let short = number-short c.args.digits.now digits (omega arith) in
    grind (arith, common_steps, short)

pub signed_exponent-requires : goal.signed_exponent-requires
signed_exponent-requires c =
    let digits : AreDigits c.args.digits.now = grind (arith, common_steps) in
    let short = number-short c.args.digits.now digits (omega arith) in
    grind (arith, common_steps, short)
