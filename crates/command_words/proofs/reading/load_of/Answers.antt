use Rattle.std.proofs.Common.{◌∙◌, subst, refl, codes, Option}
use Rattle.clap.specs.Matches.{found_of}
use Rattle.command_words.specs.Given.{Word}
use Rattle.command_words.specs.Table.{load_line}
use Rattle.command_words.specs.Asked.{Answers, load_asked}
use Rattle.command_words.proofs.Readings.{plain_read}
use Rattle.command_words.proofs.reading.load_of.Goals as goal

pub returns : goal.returns
returns c = λ given rows. subst (λ (w : Option Word). Answers c.load_words.result (load_asked w)) (c.get_str.ensures ∙ plain_read (found_of c.args.matches.now) load_line given (codes "SEED") refl rows) c.load_words.ensures
