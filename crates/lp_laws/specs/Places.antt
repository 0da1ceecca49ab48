-- Where a fault stands, by what tokens can be gone on with, and by what they can't.
use Rattle.std.specs.Prelude.{◌≡◌, ℕ, Bool, List, [], ◌∷◌, ◌++◌}
use Rattle.base_names.specs.declared.refusal.FaultWord.{FaultWord}
use Rattle.base_names.specs.declared.refusal.FaultWord.TheVariants.{DoubledName, NoSection, Number as bad_number, Size}
use Rattle.frac128.specs.Fraction.{Fraction}
use Rattle.model_data.specs.declared.model.Model.{Model}
use Rattle.lp_defs.specs.declared.fault.ModelFault.{ModelFault}
use Rattle.lp_defs.specs.Grammar.{SpellsModel}
use Rattle.lp_defs.specs.Symbols.{Quantity, finite, Seen, Spot, Symbol, token, no_token, number, name, fault_at}

-- Nothing that begins with the tokens spells a model.
abbrev pub IsDeadEnd : List Seen → Type 0
IsDeadEnd xs = (ys : List Seen) (m : Model) → SpellsModel (xs ++ ys) m → ⊥

-- Something that begins with the tokens spells a model.
pub record IsBeginning (xs : List Seen) : Type 0 where
  pub more : List Seen
  pub model : Model
  pub spelled : SpellsModel (xs ++ more) model

-- The tokens spell a model.
pub record SpellsOne (xs : List Seen) : Type 0 where
  pub model : Model
  pub spelled : SpellsModel xs model

-- Tokens that can be gone on with. A number at their end, in the objective or in a row, may be one that no name can follow
-- within the limits: then they can be gone on with once another number stands in its place.
pub data MayGoOn (xs : List Seen) : Type 0 where
  goes_on : IsBeginning xs → MayGoOn xs
  but_for_number : (before : List Seen) (s : Spot) (has_sign : Bool) (x : Fraction) (other : Quantity) →
      xs ≡ before ++ token s (number has_sign (finite x)) ∷ [] → IsBeginning (before ++ token s (number has_sign other) ∷ []) → MayGoOn xs

-- The tokens that the next one decides, and what they can be at fault for: a number, which has a name behind it or none, and
-- a name that begins a row, which is the row's name where a colon follows.
pub data WaitsWith : Symbol → FaultWord → Type 0 where
  number_waits : {has_sign : Bool} {quantity : Quantity} → WaitsWith (number has_sign quantity) bad_number
  doubled_waits : {text : List ℕ} → WaitsWith (name text) DoubledName
  size_waits : {text : List ℕ} → WaitsWith (name text) Size

-- Where a fault of tokens stands, with the spot of their end. The tokens before it can be gone on with.
pub data IsPlaced (xs : List Seen) (end : Spot) : ModelFault → Type 0 where
  -- at a token: nothing that begins with those up to and with it spells a model
  at_token : (front more : List Seen) (s : Spot) (symbol : Symbol) {word : FaultWord} → xs ≡ front ++ token s symbol ∷ more →
      MayGoOn front → IsDeadEnd (front ++ token s symbol ∷ []) → IsPlaced xs end (fault_at s word)
  -- at a token that the next one decides: nothing that begins with those up to and with that one does
  at_decided : (front more : List Seen) (s : Spot) (symbol : Symbol) (next : Seen) {word : FaultWord} → xs ≡ front ++ token s symbol ∷ next ∷ more →
      WaitsWith symbol word → IsBeginning front → IsDeadEnd (front ++ token s symbol ∷ next ∷ []) → IsPlaced xs end (fault_at s word)
  -- at such a token, where none follows it, so that nothing decides
  at_last : (front : List Seen) (s : Spot) (symbol : Symbol) {word : FaultWord} → xs ≡ front ++ token s symbol ∷ [] →
      WaitsWith symbol word → IsBeginning front → IsPlaced xs end (fault_at s word)
  -- at a run that is no token, with that run's own fault
  at_run : (front more : List Seen) {own : ModelFault} → xs ≡ front ++ no_token own ∷ more → MayGoOn front → IsPlaced xs end own
  -- at the end
  at_end : MayGoOn xs → IsPlaced xs end (fault_at end NoSection)
