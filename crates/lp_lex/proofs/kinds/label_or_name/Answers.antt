use Rattle.std.proofs.Common.{rules, ◌∙◌}
use Rattle.lp_lex.proofs.Simple.{label_or_name-simple, no_colon}
use Rattle.lp_lex.proofs.kinds.label_or_name.Goals as goal

pub name_of_length-requires : goal.name_of_length-requires
name_of_length-requires c = no_colon c.args.run.now (c.requires (search rules))

pub returns-then-is_simple : goal.returns-then-is_simple
returns-then-is_simple c = c.name_of_length.ensures ∙ label_or_name-simple c.args.run.now (c.requires (search rules))
