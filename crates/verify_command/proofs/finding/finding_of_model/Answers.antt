use Rattle.std.proofs.Common.{arith}
use Rattle.verify_command.proofs.Lengths.{countable}
use Rattle.verify_command.proofs.OneBadLine.{bad_line_within}
use Rattle.verify_command.proofs.finding.finding_of_model.Goals as goal

pub check-requires-clause-countable : goal.check-requires-clause-countable
check-requires-clause-countable c = countable c.args.text.now c.in-Ok.proof.outcome c.in-Ok.proof.cert c.in-Ok.ensures.right (omega (arith, c.requires.text))

pub overflow_add-result : goal.overflow_add-result
overflow_add-result c =
    let bad = rw c.in-Err-Fault.field-0-is at c.in-Err-Fault.ensures.right in
    rw c.in-Err-Fault.field-0-is (omega (arith, c.requires.text, bad_line_within c.args.text.now c.in-Err-Fault.fault.line bad))
