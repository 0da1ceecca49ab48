use Rattle.frac_text.proofs.Scanning.{number_of-spelled}
use Rattle.frac_text.proofs.Spelled.{spelled-number_of}
use Rattle.frac_text.proofs.laws.reading_is_the_grammar.Goals as goal

pub returns : goal.returns
returns c = λ text n. (λ e. spelled-number_of text n e, λ s. number_of-spelled text n s)
