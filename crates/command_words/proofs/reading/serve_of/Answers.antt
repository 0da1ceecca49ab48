use Rattle.std.proofs.Common.{◌∙◌, ap, subst, refl, codes, Option}
use Rattle.std.specs.Option.{option_copied}
use Rattle.clap.specs.Matches.{found_of}
use Rattle.command_words.specs.Given.{Word, value_of}
use Rattle.command_words.specs.Table.{serve_line}
use Rattle.command_words.specs.Asked.{Answers, serve_asked, sizes_asked}
use Rattle.command_words.specs.declared.values.Sizes.{Sizes}
use Rattle.command_words.proofs.Readings.{plain_read}
use Rattle.command_words.proofs.reading.serve_of.Goals as goal

pub returns : goal.returns
returns c = λ given rows.
    let found = found_of c.args.matches.now in
    let port = c.get_str.ensures ∙ plain_read found serve_line given (codes "port") refl rows in
    let nodes = c.get_str-2.ensures ∙ plain_read found serve_line given (codes "nodes") refl rows in
    let limit = c.get_str-3.ensures ∙ plain_read found serve_line given (codes "joblimit") refl rows in
    let hard = c.get_str-4.ensures ∙ plain_read found serve_line given (codes "hardlimit") refl rows in
    let workers = c.get_str-5.ensures ∙ plain_read found serve_line given (codes "workers") refl rows in
    let keys = c.get_str-6.ensures ∙ plain_read found serve_line given (codes "keys") refl rows in
    let journal = c.get_str-7.ensures ∙ plain_read found serve_line given (codes "journal") refl rows in
    let p = value_of (codes "port") given in
    let n = value_of (codes "nodes") given in
    let l = value_of (codes "joblimit") given in
    let h = value_of (codes "hardlimit") given in
    let two = option_copied c.get_str-2.result in
    let three = option_copied c.get_str-3.result in
    let four = option_copied c.get_str-4.result in
    let five = option_copied c.get_str-5.result in
    let sizes = c.sizes_given-sizes.ensures
    ∙ (ap (λ (w : Option Word). sizes_asked w two three four five) port
    ∙ (ap (λ (w : Option Word). sizes_asked p w three four five) nodes
    ∙ (ap (λ (w : Option Word). sizes_asked p n w four five) limit
    ∙ (ap (λ (w : Option Word). sizes_asked p n l w five) hard
    ∙ ap (λ (w : Option Word). sizes_asked p n l h w) workers)))) in
    subst (λ (s : Option Sizes). Answers c.serve_words.result (serve_asked (value_of (codes "keys") given) (value_of (codes "journal") given) s)) sizes
    (subst (λ (w : Option Word). Answers c.serve_words.result (serve_asked (value_of (codes "keys") given) w c.sizes_given-sizes.result)) journal
    (subst (λ (w : Option Word). Answers c.serve_words.result (serve_asked w (option_copied c.get_str-7.result) c.sizes_given-sizes.result)) keys c.serve_words.ensures))
