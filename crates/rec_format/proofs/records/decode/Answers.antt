use Rattle.std.proofs.Common.{◌≡◌, ap, sym, ◌∙◌, arith}
use Rattle.rec_format.proofs.LawfulSpelled.{none_lawful, not_lawful, told_lawful, told_none, told_only}
use Rattle.rec_format.specs.Format.{whole}
use Rattle.rec_format.specs.Records.{batch_record}
use Rattle.rec_format.proofs.records.decode.Goals as goal

pub returns-then-branch-clause-spelled : goal.returns-then-branch-clause-spelled
returns-then-branch-clause-spelled c =
    told_lawful c.args.bytes.now c.in-Ok.record (λ i. omega (arith, c.type_inv.bytes i)) c.in-Ok.ensures
    (sym c.if-branch.true ∙ c.in_ok-is_orderly_record-in-Ok.ensures)

pub returns-then-branch-clause-only : goal.returns-then-branch-clause-only
returns-then-branch-clause-only c = λ r h is. told_only c.args.bytes.now r c.in-Ok.record h is c.in-Ok.ensures

pub returns-else-branch-clause-only : goal.returns-else-branch-clause-only
returns-else-branch-clause-only c = λ r h is.
    absurd (not_lawful c.args.bytes.now r c.in-Ok.record h is c.in-Ok.ensures (sym c.if-branch.false ∙ c.in_ok-is_orderly_record-in-Ok.ensures))

pub returns-in-Err-Fault-clause-only : goal.returns-in-Err-Fault-clause-only
returns-in-Err-Fault-clause-only c = λ r h is. absurd (none_lawful c.args.bytes.now r h is (told_none (whole batch_record c.args.bytes.now) c.in-Err-Fault.field-0 c.in-Err-Fault.field-0-0 c.in-Err-Fault.field-0-is c.in-Err-Fault.ensures))
