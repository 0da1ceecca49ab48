use Rattle.lp_defs.specs.Symbols.{spot_of}
use Rattle.lp_defs.specs.Text.{seen}
use Rattle.lp_defs.specs.Tokens.{end_of}
use Rattle.lp_defs.proofs.Agreement.{agreement}
use Rattle.lp_defs.proofs.grammar_laws.reading_is_the_grammar.Goals as goal

pub returns-clause-tokens : goal.returns-clause-tokens
returns-clause-tokens c = agreement

pub returns-clause-texts : goal.returns-clause-texts
returns-clause-texts c = λ text. agreement (seen text) (spot_of (end_of text))
