use Rattle.verify_command.proofs.OneFinding.{valid_verified}
use Rattle.verify_command.proofs.laws.a_valid_input_is_verified.Goals as goal

pub returns : goal.returns
returns c = valid_verified
