use Rattle.std.proofs.lemmas.Result.{IfOk-weaker}
use Rattle.verify_command.proofs.OneFinding.{of_model}
use Rattle.verify_command.proofs.finding.finding_in.Goals as goal

pub returns-in-Ok : goal.returns-in-Ok
returns-in-Ok c =
    IfOk-weaker c.finding_of_model.result _ _ (λ found h. of_model c.args.block.now c.args.text.now c.in-Ok.model found c.in-Ok.ensures.ok h) c.finding_of_model.ensures
