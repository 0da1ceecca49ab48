use Rattle.std.proofs.Common.{rules}
use Rattle.lp_lex.proofs.Simple.{no_bad}
use Rattle.lp_lex.proofs.lexer.bad_byte.Goals as goal

pub returns-then-run-clause-first : goal.returns-then-run-clause-first
returns-then-run-clause-first c = no_bad c.args.run.bytes.now (c.requires (search rules))
