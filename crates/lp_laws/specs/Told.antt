-- What tokens have told, by what they spell once an end is put behind them.
use Rattle.std.specs.Prelude.{◌≡◌, ℕ, Bool, true, false, List, [], ◌∷◌, ◌++◌, Option, Some, None, IsTrue, IsFalse}
use Rattle.std.specs.List.{list_any}
use Rattle.frac128.specs.Fraction.{Fraction, zero_value}
use Rattle.model_data.specs.declared.model.Model.{Model}
use Rattle.model_data.specs.declared.model.Row.{Row}
use Rattle.model_data.specs.declared.model.Sense.TheVariants.{Less}
use Rattle.lp_defs.specs.declared.token.SectionWord.TheVariants.{Binary, Bounds, Constraints, End, General}
use Rattle.lp_defs.specs.Draft.{Unfinished, close_row, default_title, new_row, objective_sum, row_sum, with_objective, with_term}
use Rattle.lp_defs.specs.Grammar.{FiniteAmount, MayOpen, OptionalLabel, OptionalSign, SpellsModel, begins_with_sign}
use Rattle.lp_defs.specs.Quantity.{unit}
use Rattle.lp_defs.specs.Symbols.{Seen, Symbol, token, colon, comparison, finite, keyword, name, number}

-- a token that is put behind others, where its place says nothing
abbrev pub put : Symbol → Seen
put symbol = token (record { line = 0; column = 0 }) symbol

-- The tokens are an objective word and an objective that may end here, and have told the model.
abbrev pub TellsObjective : List Seen → Model → Type 0
TellsObjective xs m = SpellsModel (xs ++ put (keyword Constraints) ∷ put (keyword End) ∷ []) m

abbrev pub begins_section : Seen → Bool
begins_section (token spot (keyword Bounds)) = true
begins_section (token spot (keyword General)) = true
begins_section (token spot (keyword Binary)) = true
begins_section seen = false

-- whether a section of bounds or of kinds has begun
abbrev pub has_section : List Seen → Bool
has_section xs = list_any begins_section xs

-- The tokens end with the constraints word or with a whole row, and have told the model.
pub record TellsRows (xs : List Seen) (m : Model) : Type 0 where
  pub no_section : IsFalse (has_section xs)
  pub spelled : SpellsModel (xs ++ put (keyword End) ∷ []) m

-- The tokens end where a section of bounds or kinds may end, and have told the model.
pub record TellsSections (xs : List Seen) (m : Model) : Type 0 where
  pub section : IsTrue (has_section xs)
  pub spelled : SpellsModel (xs ++ put (keyword End) ∷ []) m

-- The tokens end in a row, where its comparison may stand, and have told the model with that row.
pub record TellsTerms (xs : List Seen) (u : Unfinished) : Type 0 where
  pub no_section : IsFalse (has_section xs)
  pub spelled : SpellsModel (xs ++ put (comparison Less) ∷ put (number false (finite zero_value)) ∷ put (keyword End) ∷ []) (close_row Less zero_value u)

abbrev pub has_rows : Model → Bool
has_rows m = some_row m.rows
  where
    some_row : List Row → Bool
    some_row [] = false
    some_row (_ ∷ _) = true

-- a name and a colon
abbrev pub begins_with_label : List Seen → Bool
begins_with_label (token spot (name text) ∷ token colon_spot colon ∷ xs) = true
begins_with_label xs = false

-- The tokens end where a row's first term may stand, and the rest stands there. The row has told no more than its name: that
-- of its label, or of its place where the rest begins with no label.
pub data BeginsRow (xs rest : List Seen) : Unfinished → Type 0 where
  unlabelled : {m : Model} → TellsRows xs m → MayOpen (default_title m) m → IsFalse (begins_with_label rest) → BeginsRow xs rest (new_row (default_title m) m)
  labelled : (rows label : List Seen) {m : Model} {text : List ℕ} → TellsRows rows m → OptionalLabel label (Some text) [] → MayOpen text m →
      xs ≡ rows ++ label → BeginsRow xs rest (new_row text m)

-- what a term adds to
pub data Sum : Type 0 where
  objective : Model → Sum
  row : Unfinished → Sum

-- The rest begins with a term, which adds to what the tokens before it have told. Only a first term needs no sign. That of the
-- objective is left out: nothing is told before it, so that no sum and no limit refuses it.
pub data TakesTerm (xs rest : List Seen) : Sum → Type 0 where
  in_objective : {m : Model} → TellsObjective xs m → IsTrue (begins_with_sign rest) → TakesTerm xs rest (objective m)
  first_in_row : {u : Unfinished} → BeginsRow xs rest u → TakesTerm xs rest (row u)
  later_in_row : {u : Unfinished} → TellsTerms xs u → IsTrue (begins_with_sign rest) → TakesTerm xs rest (row u)

-- the coefficient that tokens in front of a name give it: none, a sign, a number, or both
pub data Coefficient : List Seen → Fraction → Type 0 where
  lone : {xs : List Seen} {negative : Bool} → OptionalSign xs negative [] → Coefficient xs (unit negative)
  scaled : {xs : List Seen} {x : Fraction} → FiniteAmount xs x [] → Coefficient xs x

-- what a name's coefficient comes to with a further one, where that fits
abbrev pub sum_of : List ℕ → Fraction → Sum → Option Fraction
sum_of text x (objective m) = objective_sum text x m
sum_of text x (row u) = row_sum text x u

-- The name with that coefficient passes the limit of variables or of terms.
abbrev pub IsPastLimit : List ℕ → Fraction → Sum → Type 0
IsPastLimit text sum (objective m) = with_objective text sum m ≡ None
IsPastLimit text sum (row u) = with_term text sum u ≡ None
