use Rattle.std.proofs.lemmas.Result.{IfOk-weaker}
use Rattle.command_words.proofs.Locals.{local_sub}
use Rattle.command_words.proofs.command.with_subcommand.Goals as goal

pub returns-clause-local : goal.returns-clause-local
returns-clause-local c = IfOk-weaker c.subcommand.result _ _ (λ r h. local_sub c.args.command r c.args.sub c.requires h) c.subcommand.ensures
