use Rattle.std.proofs.Common.{subst}
use Rattle.std.specs.Result.{IfOk}
use Rattle.verify_command.specs.Findings.{IsFinding}
use Rattle.verify_command.proofs.Told.{told_answers}
use Rattle.verify_command.proofs.command.answer.Goals as goal

pub returns-in-Ok-clause-answers : goal.returns-in-Ok-clause-answers
returns-in-Ok-clause-answers g c =
    let finding : IsFinding c.args.input.now c.in-Ok.finding = subst (λ r. IfOk r (λ f. IsFinding c.args.input.now f)) c.in-Ok.is (rw c.as_bytes.ensures at c.finding_of.ensures) in
    told_answers c.args.input.now c.in-Ok.finding c.tell.result _ _ finding c.tell.ensures.tells
