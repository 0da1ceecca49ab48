-- Worked texts of faults that no other crate works out: a run that is too long for a name.
use Rattle.std.proofs.Common.{refl, ◌++◌, codes, replicate}
use Rattle.base_names.specs.declared.refusal.FaultWord.TheVariants.{NameLength}
use Rattle.frac_text.specs.Reading.{number_of}
use Rattle.lp_defs.specs.Items.{forbidden_after, items_of}
use Rattle.lp_defs.specs.Kinds.{kind_of, label_of, name_of, quantity_of, section_of, symbol_of}
use Rattle.lp_defs.specs.Reading.{reading_from}
use Rattle.lp_defs.specs.Text.{Stops}
use Rattle.lp_defs.specs.Tokens.{behind_bytes, runs_from}

-- a name of 256 bytes behind the objective word
too_long : Stops (codes "Max " ++ replicate 256 97 ++ codes " st end") (record { line = 1; column = 5; fault = NameLength })
unfolding reading_from items_of runs_from behind_bytes kind_of symbol_of quantity_of section_of name_of label_of forbidden_after number_of
too_long = refl
