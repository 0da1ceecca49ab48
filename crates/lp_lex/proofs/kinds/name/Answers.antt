use Rattle.std.proofs.Common.{sym, ◌∙◌}
use Rattle.lp_lex.proofs.FirstByte.{name_with_colon}
use Rattle.lp_lex.proofs.kinds.name.Goals as goal

pub returns-then-is_one_of : goal.returns-then-is_one_of
returns-then-is_one_of c = name_with_colon c.args.run.now (sym c.is_one_of.ensures ∙ c.if-is_one_of.true)
