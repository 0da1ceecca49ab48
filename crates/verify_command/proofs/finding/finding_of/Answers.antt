use Rattle.std.proofs.lemmas.Result.{IfOk-weaker}
use Rattle.verify_command.specs.Findings.{in_parts, without_parts}
use Rattle.verify_command.proofs.OneFinding.{is_finding}
use Rattle.verify_command.proofs.finding.finding_of.Goals as goal

pub returns-in-Some : goal.returns-in-Some
returns-in-Some c =
    IfOk-weaker c.finding_in.result _ _ (λ found h. is_finding c.args.input.now found (in_parts c.in-Some.block.now c.in-Some.text.now found c.in-Some.ensures h)) c.finding_in.ensures

pub returns-in-None : goal.returns-in-None
returns-in-None c = is_finding c.args.input.now _ (without_parts c.in-None.ensures)
