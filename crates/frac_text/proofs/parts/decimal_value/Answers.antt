use Rattle.std.proofs.Common.{arith, subst, sym}
use Rattle.std.proofs.lemmas.Grind.{common_steps}
use Rattle.frac_text.specs.Grammar.{AreDigits}
use Rattle.frac_text.proofs.Runs.{AreDigits-without_last_zeros, length-without_last_zeros-le}
use Rattle.frac_text.proofs.parts.decimal_value.Goals as goal

pub lowered-requires-clause-not_long : goal.lowered-requires-clause-not_long
lowered-requires-clause-not_long c = let less = length-without_last_zeros-le c.args.behind.now in grind (arith, common_steps, less)

pub scaled_value-requires-clause-behind_digits : goal.scaled_value-requires-clause-behind_digits
scaled_value-requires-clause-behind_digits c = subst AreDigits (sym c.without_last_zeros-kept.ensures) (AreDigits-without_last_zeros c.args.behind.now c.requires.behind_digits)

pub scaled_value-requires-clause-not_long : goal.scaled_value-requires-clause-not_long
scaled_value-requires-clause-not_long c = let less = length-without_last_zeros-le c.args.behind.now in grind (arith, common_steps, less)
