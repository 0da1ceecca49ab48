-- What the grammar sees of a token, and where.
use Rattle.std.specs.Prelude.{ℕ, Bool, List, codes, Option, Some, None, Result, Ok, Err}
use Rattle.base_names.specs.declared.refusal.FaultWord.{FaultWord}
use Rattle.frac128.specs.Fraction.{Fraction}
use Rattle.model_data.specs.declared.model.Sense.{Sense}
use Rattle.lp_defs.specs.declared.fault.ModelFault.{ModelFault}
use Rattle.lp_defs.specs.declared.token.Place.{Place}
use Rattle.lp_defs.specs.declared.token.SectionWord.{SectionWord}
use Rattle.lp_defs.specs.declared.token.TokenKind.{TokenKind}
use Rattle.lp_defs.specs.declared.token.TokenKind.TheVariants.{Colon, Comparison, Infinite, Label, Name, Number, Section, Sign, TooWide}
use Rattle.lp_defs.specs.Items.{Item}
use Rattle.lp_defs.specs.Kinds.{begins_with, front_of}

-- where a token begins
pub record Spot : Type 0 where
  pub line : ℕ
  pub column : ℕ

abbrev pub fault_at : Spot → FaultWord → ModelFault
fault_at spot fault = record { line = spot.line; column = spot.column; fault = fault }

-- what is there, or the fault at the spot
abbrev pub or_fault : {A : Type 0} → Spot → FaultWord → Option A → Result A ModelFault
or_fault spot fault (Some a) = Ok a
or_fault spot fault None = Err (fault_at spot fault)

pub data Quantity : Type 0 where
  finite : Fraction → Quantity
  -- whether it is below 0, and whether its size is at least 10 ^ 20
  too_wide : Bool → Bool → Quantity
  -- whether it is below 0
  infinite : Bool → Quantity

pub data Symbol : Type 0 where
  -- whether it is a minus
  sign : Bool → Symbol
  colon : Symbol
  comparison : Sense → Symbol
  -- whether it begins with a sign
  number : Bool → Quantity → Symbol
  keyword : SectionWord → Symbol
  -- the name before the colon
  label : List ℕ → Symbol
  name : List ℕ → Symbol

abbrev pub symbol_of : TokenKind → List ℕ → Symbol
symbol_of (Sign negative) bytes = sign negative
symbol_of Colon bytes = colon
symbol_of (Comparison sense) bytes = comparison sense
symbol_of (Number x) bytes = number (begins_with (codes "+-") bytes) (finite x)
symbol_of (TooWide negative huge) bytes = number (begins_with (codes "+-") bytes) (too_wide negative huge)
symbol_of (Infinite negative) bytes = number (begins_with (codes "+-") bytes) (infinite negative)
symbol_of (Section word) bytes = keyword word
symbol_of Label bytes = label (front_of bytes)
symbol_of Name bytes = name bytes

-- what stands next in a text: a token, or a run that is none, with its fault
pub data Seen : Type 0 where
  token : Spot → Symbol → Seen
  no_token : ModelFault → Seen

abbrev pub seen_of : Item → Seen
seen_of (Ok lexeme) = token (record { line = lexeme.token.line; column = lexeme.token.column }) (symbol_of lexeme.token.kind lexeme.bytes)
seen_of (Err fault) = no_token (record { line = fault.line; column = fault.column; fault = fault.fault })

abbrev pub spot_of : Place → Spot
spot_of place = record { line = place.line; column = place.column }
