use Rattle.std.proofs.Common.{◌≡◌, subst, sym, arith}
use Rattle.std.proofs.lemmas.Grind.{common_steps}
use Rattle.frac_text.specs.Digits.{front_digits}
use Rattle.frac_text.specs.Grammar.{AreDigits}
use Rattle.frac_text.proofs.Runs.{AreDigits-front_digits}
use Rattle.frac_text.proofs.digits.split_digits.Goals as goal

pub returns-clause-are_digits : goal.returns-clause-are_digits
returns-clause-are_digits c =
    let front : c.split_at.result.0.now ≡ front_digits c.args.bytes.now = grind (arith, common_steps) in
    subst AreDigits (sym front) (AreDigits-front_digits c.args.bytes.now)
