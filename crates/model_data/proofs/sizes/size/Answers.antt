use Rattle.std.proofs.Common.{arith}
use Rattle.std.proofs.lemmas.Grind.{common_steps}
use Rattle.model_data.proofs.Lawful.{size_of-lawful}
use Rattle.model_data.proofs.sizes.size.Goals as goal

pub returns-clause-lawful : goal.returns-clause-lawful
returns-clause-lawful c = λ h. let small = size_of-lawful c.args.m.now h in grind (arith, common_steps, small)
