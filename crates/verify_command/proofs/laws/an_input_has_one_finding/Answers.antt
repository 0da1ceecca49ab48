use Rattle.verify_command.proofs.InputParts.{one_parts}
use Rattle.verify_command.proofs.OneFinding.{one_finding}
use Rattle.verify_command.proofs.laws.an_input_has_one_finding.Goals as goal

pub returns-clause-parts : goal.returns-clause-parts
returns-clause-parts c = one_parts

pub returns-clause-finding : goal.returns-clause-finding
returns-clause-finding c = one_finding
