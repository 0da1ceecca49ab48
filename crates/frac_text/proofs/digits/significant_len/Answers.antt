use Rattle.std.proofs.Common.{arith}
use Rattle.std.proofs.lemmas.Grind.{common_steps}
use Rattle.frac_text.proofs.Runs.{without_first_zeros-append_len, without_first_zeros-append}
use Rattle.frac_text.proofs.digits.significant_len.Goals as goal

pub returns-then-is_empty : goal.returns-then-is_empty
returns-then-is_empty c = grind (arith, common_steps, without_first_zeros-append_len)

pub returns-else-is_empty : goal.returns-else-is_empty
returns-else-is_empty c = grind (arith, common_steps, without_first_zeros-append)
