use Rattle.std.proofs.Common.{◌∙◌, subst, refl, codes, Option}
use Rattle.std.specs.Option.{option_copied}
use Rattle.clap.specs.Matches.{found_of}
use Rattle.command_words.specs.Given.{Word, value_of}
use Rattle.command_words.specs.Table.{solve_line}
use Rattle.command_words.specs.Asked.{Answers, solve_asked}
use Rattle.command_words.proofs.Readings.{plain_read}
use Rattle.command_words.proofs.reading.solve_of.Goals as goal

pub returns : goal.returns
returns c = λ given rows.
    subst (λ (w : Option Word). Answers c.solve_words.result (solve_asked (value_of (codes "iterations") given) (value_of (codes "nodes") given) w)) (c.get_str-3.ensures ∙ plain_read (found_of c.args.matches.now) solve_line given (codes "work") refl rows)
    (subst (λ (w : Option Word). Answers c.solve_words.result (solve_asked (value_of (codes "iterations") given) w (option_copied c.get_str-3.result))) (c.get_str-2.ensures ∙ plain_read (found_of c.args.matches.now) solve_line given (codes "nodes") refl rows)
    (subst (λ (w : Option Word). Answers c.solve_words.result (solve_asked w (option_copied c.get_str-2.result) (option_copied c.get_str-3.result))) (c.get_str.ensures ∙ plain_read (found_of c.args.matches.now) solve_line given (codes "iterations") refl rows) c.solve_words.ensures))
