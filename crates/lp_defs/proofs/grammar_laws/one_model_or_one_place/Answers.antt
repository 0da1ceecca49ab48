use Rattle.lp_defs.specs.Symbols.{spot_of}
use Rattle.lp_defs.specs.Text.{seen}
use Rattle.lp_defs.specs.Tokens.{end_of}
use Rattle.lp_defs.proofs.Agreement.{either, never_both, one_model}
use Rattle.lp_defs.proofs.grammar_laws.one_model_or_one_place.Goals as goal

pub returns-clause-either : goal.returns-clause-either
returns-clause-either c = λ text. either (seen text) (spot_of (end_of text))

pub returns-clause-one_model : goal.returns-clause-one_model
returns-clause-one_model c = λ text. one_model (seen text)

pub returns-clause-never_both : goal.returns-clause-never_both
returns-clause-never_both c = λ text. never_both (seen text) (spot_of (end_of text))
