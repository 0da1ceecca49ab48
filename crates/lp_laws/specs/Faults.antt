-- Which token is the first that is wrong, and the word of its fault.
--
-- A token is judged by what the tokens before it have told, of which none is wrong, by itself, and by the one behind it.
-- Nothing is said of how a reader finds out.
use Rattle.std.specs.Prelude.{◌≡◌, ◌⊎◌, ℕ, Bool, true, false, List, [], ◌∷◌, ◌++◌, Some, None, IsTrue, IsFalse}
use Rattle.base_names.specs.declared.refusal.FaultWord.{FaultWord}
use Rattle.base_names.specs.declared.refusal.FaultWord.TheVariants.{AfterEnd, DoubledName, NoSection, Number as bad_number, Size, Unsupported, Word}
use Rattle.frac128.specs.Fraction.{Fraction}
use Rattle.model_data.specs.declared.model.Model.{Model}
use Rattle.model_data.specs.declared.model.Sense.{Sense}
use Rattle.lp_defs.specs.declared.fault.ModelFault.{ModelFault}
use Rattle.lp_defs.specs.declared.token.SectionWord.{SectionWord}
use Rattle.lp_defs.specs.declared.token.SectionWord.TheVariants.{Constraints, Maximize, Minimize, Subject, Such}
use Rattle.lp_defs.specs.Draft.{Unfinished, default_title, has_room_for_row, knows_row, mention, with_constant}
use Rattle.lp_defs.specs.Grammar.{Amount, OptionalSign, SpellsModel, begins_with_sign}
use Rattle.lp_defs.specs.Quantity.{Limit, limit_of, may_bound, turned, under_sign, unit, value_of}
use Rattle.lp_defs.specs.Symbols.{Quantity, finite, Seen, Spot, Symbol, token, no_token, colon, comparison, keyword, label, name, number, sign, fault_at, spot_of}
use Rattle.lp_defs.specs.Text.{seen}
use Rattle.lp_defs.specs.Tokens.{end_of}
use Rattle.lp_laws.specs.Places.{IsBeginning, IsDeadEnd, SpellsOne}
use Rattle.lp_laws.specs.Told.{BeginsRow, Coefficient, IsPastLimit, Sum, TakesTerm, TellsObjective, TellsRows, TellsSections, begins_with_label, has_rows, has_section, sum_of}

abbrev pub is_objective_word : Symbol → Bool
is_objective_word (keyword Minimize) = true
is_objective_word (keyword Maximize) = true
is_objective_word symbol = false

abbrev pub is_constraints_word : SectionWord → Bool
is_constraints_word Constraints = true
is_constraints_word Subject = true
is_constraints_word Such = true
is_constraints_word word = false

abbrev pub is_finite : Quantity → Bool
is_finite (finite x) = true
is_finite quantity = false

abbrev pub begins_with_name : List Seen → Bool
begins_with_name (token spot (name text) ∷ xs) = true
begins_with_name xs = false

-- a sign, a number or a name
abbrev pub begins_with_term : List Seen → Bool
begins_with_term (token spot (sign negative) ∷ xs) = true
begins_with_term (token spot (number has_sign quantity) ∷ xs) = true
begins_with_term (token spot (name text) ∷ xs) = true
begins_with_term xs = false

-- the name of the row that begins the tokens, behind those that have told the model
pub data RowName (m : Model) : List Seen → List ℕ → Type 0 where
  one_token : {spot : Spot} {text : List ℕ} {xs : List Seen} → RowName m (token spot (label text) ∷ xs) text
  two_tokens : {spot colon_spot : Spot} {text : List ℕ} {xs : List Seen} → RowName m (token spot (name text) ∷ token colon_spot colon ∷ xs) text
  by_place : {xs : List Seen} → IsTrue (begins_with_term xs) → IsFalse (begins_with_label xs) → RowName m xs (default_title m)

-- the term that begins with the first of the tokens, behind a minus or not: a name, or a number and a name
pub data TermAt (negative : Bool) : List Seen → List ℕ → Fraction → Type 0 where
  lone : {spot : Spot} {text : List ℕ} {xs : List Seen} → TermAt negative (token spot (name text) ∷ xs) text (unit negative)
  scaled : {spot name_spot : Spot} {has_sign : Bool} {quantity : Quantity} {x : Fraction} {text : List ℕ} {xs : List Seen} →
      value_of (under_sign negative quantity) ≡ Some x → TermAt negative (token spot (number has_sign quantity) ∷ token name_spot (name text) ∷ xs) text x

-- what may stand between a section and a name that a bound or a list mentions: nothing, or a bound's number and its comparison
pub data BeforeMention : List Seen → Type 0 where
  nothing : BeforeMention []
  number_and_sense : {xs : List Seen} {quantity : Quantity} {spot : Spot} {sense : Sense} → Amount xs quantity (token spot (comparison sense) ∷ []) → BeforeMention xs

-- The first of the tokens, behind others of which none is wrong, has a fault of this word: one case for each rule that names
-- a fault. Where a rule speaks of a sum or a limit, it is that of the tokens which have told it.
pub data IsNamed (front : List Seen) : List Seen → FaultWord → Type 0 where
  -- behind tokens that spell a model
  behind_end : {spot : Spot} {symbol : Symbol} {more : List Seen} → SpellsOne front → IsNamed front (token spot symbol ∷ more) AfterEnd
  -- A text begins with an objective word, and behind an objective stands the constraints word.
  no_objective_word : {spot : Spot} {symbol : Symbol} {more : List Seen} → front ≡ [] → IsFalse (is_objective_word symbol) →
      IsNamed front (token spot symbol ∷ more) NoSection
  no_constraints_word : {spot : Spot} {word : SectionWord} {more : List Seen} {m : Model} → TellsObjective front m → IsFalse (is_constraints_word word) →
      IsNamed front (token spot (keyword word) ∷ more) NoSection
  -- a comparison behind a right side, or behind a row's first number alone
  second_comparison : {spot : Spot} {sense : Sense} {more : List Seen} {m : Model} → TellsRows front m → IsTrue (has_rows m) →
      IsNamed front (token spot (comparison sense) ∷ more) Unsupported
  number_alone : (before amount : List Seen) {quantity : Quantity} {spot : Spot} {sense : Sense} {more : List Seen} {u : Unfinished} →
      front ≡ before ++ amount → BeginsRow before (amount ++ token spot (comparison sense) ∷ more) u → Amount amount quantity [] →
      IsNamed front (token spot (comparison sense) ∷ more) Unsupported
  -- a row's first token, where a row before has its name
  doubled : {spot : Spot} {symbol : Symbol} {more : List Seen} {m : Model} {text : List ℕ} → TellsRows front m → RowName m (token spot symbol ∷ more) text →
      IsTrue (knows_row text m) → IsNamed front (token spot symbol ∷ more) DoubledName
  -- the first token of a row that is past the limit
  row_past_limit : {spot : Spot} {symbol : Symbol} {more : List Seen} {m : Model} {text : List ℕ} → TellsRows front m → RowName m (token spot symbol ∷ more) text →
      IsFalse (knows_row text m) → IsFalse (has_room_for_row m) → IsNamed front (token spot symbol ∷ more) Size
  -- the name of a term that is past the limit, or whose variable is, where its sum fits
  term_past_limit : (before own : List Seen) {spot : Spot} {text : List ℕ} {more : List Seen} {x sum : Fraction} {sums : Sum} →
      front ≡ before ++ own → TakesTerm before (own ++ token spot (name text) ∷ more) sums → Coefficient own x →
      sum_of text x sums ≡ Some sum → IsPastLimit text sum sums → IsNamed front (token spot (name text) ∷ more) Size
  -- the name of a variable past the limit in a section
  variable_past_limit : (before own : List Seen) {spot : Spot} {text : List ℕ} {more : List Seen} {m : Model} →
      front ≡ before ++ own → TellsSections before m → BeforeMention own → mention text m ≡ None → IsNamed front (token spot (name text) ∷ more) Size
  -- A number whose value does not serve, where another one could stand. A finite one is wrong at once in a bound alone.
  no_value : (other : Quantity) {spot : Spot} {has_sign : Bool} {quantity : Quantity} {more : List Seen} → IsBeginning (front ++ token spot (number has_sign other) ∷ []) →
      IsDeadEnd (front ++ token spot (number has_sign quantity) ∷ []) → IsFalse (is_finite quantity) ⊎ IsTrue (has_section front) →
      IsNamed front (token spot (number has_sign quantity) ∷ more) bad_number
  -- a term's number, or its name where it has none, whose sum does not fit
  no_sum : (before own : List Seen) {negative : Bool} {spot : Spot} {symbol : Symbol} {more : List Seen} {text : List ℕ} {x : Fraction} {sums : Sum} →
      front ≡ before ++ own → TakesTerm before (own ++ token spot symbol ∷ more) sums → OptionalSign own negative [] →
      TermAt negative (token spot symbol ∷ more) text x → sum_of text x sums ≡ None → IsNamed front (token spot symbol ∷ more) bad_number
  -- a number of the objective that no name follows, whose sum with the constant does not fit
  no_constant : (before own : List Seen) {negative : Bool} {spot : Spot} {has_sign : Bool} {quantity : Quantity} {more : List Seen} {x : Fraction} {m : Model} →
      front ≡ before ++ own → TellsObjective before m → IsTrue (begins_with_sign (own ++ token spot (number has_sign quantity) ∷ more)) → OptionalSign own negative [] →
      value_of (under_sign negative quantity) ≡ Some x → IsFalse (begins_with_name more) → with_constant x m ≡ None →
      IsNamed front (token spot (number has_sign quantity) ∷ more) bad_number
  -- a bound's first number, which does not fit the comparison behind it
  no_bound : (before own : List Seen) {negative : Bool} {spot sense_spot : Spot} {has_sign : Bool} {quantity : Quantity} {sense : Sense} {more : List Seen} {limit : Limit} {m : Model} →
      front ≡ before ++ own → TellsSections before m → IsBeginning (front ++ token spot (number has_sign quantity) ∷ []) → OptionalSign own negative [] →
      limit_of (under_sign negative quantity) ≡ Some limit → IsFalse (may_bound (turned sense) limit) →
      IsNamed front (token spot (number has_sign quantity) ∷ token sense_spot (comparison sense) ∷ more) bad_number

-- the same symbol, or another number in a number's place
pub data IsLike : Symbol → Symbol → Type 0 where
  same : {symbol : Symbol} → IsLike symbol symbol
  other_number : {has_sign : Bool} {quantity other : Quantity} → IsLike (number has_sign quantity) (number has_sign other)

-- The first of the tokens, behind others of which none is wrong, is wrong. The word is WORD where no other one is named and
-- nothing that begins with the tokens up to and with this one, or with another number in its place, spells a model.
pub data IsWrong (front : List Seen) : List Seen → FaultWord → Type 0 where
  named : {rest : List Seen} {word : FaultWord} → IsNamed front rest word → IsWrong front rest word
  misplaced : {spot : Spot} {symbol : Symbol} {more : List Seen} →
      ((other : Symbol) → IsLike symbol other → IsDeadEnd (front ++ token spot other ∷ [])) →
      ((word : FaultWord) → IsNamed front (token spot symbol ∷ more) word → ⊥) → IsWrong front (token spot symbol ∷ more) Word

-- None of the tokens before the rest is wrong, and each of them is a token.
pub data NothingWrong : List Seen → List Seen → Type 0 where
  none : {rest : List Seen} → NothingWrong [] rest
  one_more : {front : List Seen} {spot : Spot} {symbol : Symbol} {rest : List Seen} → NothingWrong front (token spot symbol ∷ rest) →
      ((word : FaultWord) → IsWrong front (token spot symbol ∷ rest) word → ⊥) → NothingWrong (front ++ token spot symbol ∷ []) rest

-- The first fault of tokens, with the spot of their end: at a token that is wrong, at a run that is none, whose own fault it
-- is, or at the end, where tokens of which none is wrong spell no model yet.
pub data IsFault (xs : List Seen) (end : Spot) : ModelFault → Type 0 where
  at_token : (front more : List Seen) {spot : Spot} {symbol : Symbol} {word : FaultWord} → xs ≡ front ++ token spot symbol ∷ more →
      NothingWrong front (token spot symbol ∷ more) → IsWrong front (token spot symbol ∷ more) word → IsFault xs end (fault_at spot word)
  at_run : (front more : List Seen) {own : ModelFault} → xs ≡ front ++ no_token own ∷ more → NothingWrong front (no_token own ∷ more) → IsFault xs end own
  at_end : NothingWrong xs [] → ((m : Model) → SpellsModel xs m → ⊥) → IsFault xs end (fault_at end NoSection)

-- the fault of a text
abbrev pub IsFaultOf : List ℕ → ModelFault → Type 0
IsFaultOf text f = IsFault (seen text) (spot_of (end_of text)) f
