use Rattle.std.proofs.Common.{◌∙◌, ap, subst, refl, codes, Option}
use Rattle.std.proofs.Common.{Some, ◌∷◌, [], Bool}
use Rattle.std.specs.Option.{option_copied}
use Rattle.clap.specs.Matches.{found_of}
use Rattle.command_words.specs.Given.{Word, value_of}
use Rattle.command_words.specs.Table.{journal}
use Rattle.command_words.specs.Asked.{Answers, is_set_as, session_asked, is_set}
use Rattle.command_words.proofs.Readings.{beside_read, flag_read}
use Rattle.command_words.proofs.reading.session_of.Goals as goal

pub returns : goal.returns
returns c = λ given rows.
    subst (λ (w : Option Word). Answers c.session_words.result (session_asked (value_of (codes "NAME") given) (is_set (codes "admin") given) w)) (c.get_str-3.ensures ∙ beside_read (found_of c.args.matches.now) (codes "admin") (journal ∷ []) (Some (codes "NAME")) given (codes "journal") refl refl rows)
    (subst (λ (b : Bool). Answers c.session_words.result (session_asked (value_of (codes "NAME") given) b (option_copied c.get_str-3.result))) (c.is_set-admin.ensures ∙ (ap is_set_as c.get_str.ensures ∙ flag_read (found_of c.args.matches.now) (codes "admin") (journal ∷ []) (Some (codes "NAME")) given refl rows))
    (subst (λ (w : Option Word). Answers c.session_words.result (session_asked w c.is_set-admin.result (option_copied c.get_str-3.result))) (c.get_str-2.ensures ∙ beside_read (found_of c.args.matches.now) (codes "admin") (journal ∷ []) (Some (codes "NAME")) given (codes "NAME") refl refl rows) c.session_words.ensures))
