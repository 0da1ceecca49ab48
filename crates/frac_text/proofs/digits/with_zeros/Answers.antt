use Rattle.std.proofs.Common.{arith, suc}
use Rattle.std.proofs.lemmas.Grind.{common_steps}
use Rattle.frac_text.proofs.Runs.{tens-le, tens_more}
use Rattle.frac_text.proofs.digits.with_zeros.Goals as goal

pub returns-in_err-longer : goal.returns-in_err-longer
returns-in_err-longer c =
    let k = c.loop.counter in
    let next = tens_more c.args.number k in
    let more = tens-le c.args.number (suc k) c.args.tens (omega arith) in
    grind (arith, common_steps, next, more)

pub loop-preserved : goal.loop-preserved
loop-preserved c =
    let next = tens_more c.args.number c.loop.counter in
    grind (arith, common_steps, next)
