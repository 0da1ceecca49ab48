use Rattle.std.proofs.Common.{◌∙◌, subst, refl, codes, Option}
use Rattle.clap.specs.Matches.{found_of}
use Rattle.command_words.specs.Given.{Word}
use Rattle.command_words.specs.Table.{work_line}
use Rattle.command_words.specs.Asked.{Answers, work_asked}
use Rattle.command_words.proofs.Readings.{plain_read}
use Rattle.command_words.proofs.reading.work_of.Goals as goal

pub returns : goal.returns
returns c = λ given rows. subst (λ (w : Option Word). Answers c.work_words.result (work_asked w)) (c.get_str.ensures ∙ plain_read (found_of c.args.matches.now) work_line given (codes "journal") refl rows) c.work_words.ensures
