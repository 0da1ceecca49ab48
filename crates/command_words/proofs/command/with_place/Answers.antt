use Rattle.std.proofs.Common.{rules}
use Rattle.std.proofs.lemmas.Result.{IfOk-weaker}
use Rattle.command_words.proofs.Locals.{local_arg}
use Rattle.command_words.proofs.command.with_place.Goals as goal

pub returns-clause-local : goal.returns-clause-local
returns-clause-local c = IfOk-weaker c.arg.result _ _ (λ r h. local_arg c.args.command r c.new.result (search rules) h) c.arg.ensures
