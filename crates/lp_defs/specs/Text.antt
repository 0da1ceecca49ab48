-- What the bytes of a text are: the model that they spell, or the first place at which they stop to be one's text.
use Rattle.std.specs.Prelude.{◌≡◌, ℕ, List, map, Result, Err}
use Rattle.model_data.specs.declared.model.Model.{Model}
use Rattle.lp_defs.specs.declared.fault.ModelFault.{ModelFault}
use Rattle.lp_defs.specs.Grammar.{SpellsModel}
use Rattle.lp_defs.specs.Items.{items}
use Rattle.lp_defs.specs.Reading.{reading_of}
use Rattle.lp_defs.specs.Symbols.{Seen, seen_of, spot_of}
use Rattle.lp_defs.specs.Tokens.{end_of}

-- the tokens of a text, and the runs that are none
abbrev pub seen : List ℕ → List Seen
seen text = map seen_of (items text)

-- the model that a text is read as, or its first fault
abbrev pub reading : List ℕ → Result Model ModelFault
reading text = reading_of (seen text) (spot_of (end_of text))

abbrev pub Spells : List ℕ → Model → Type 0
Spells text m = SpellsModel (seen text) m

-- The place is the first at which no case fits, where tokens are read from the left with one token in view.
abbrev pub Stops : List ℕ → ModelFault → Type 0
Stops text fault = reading text ≡ Err fault
