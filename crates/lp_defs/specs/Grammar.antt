-- Which lists of tokens spell which model: one case for each production.
--
-- A production leads from the tokens that stand before it, with the model told so far, to those that are left behind it,
-- with the model told then. Nothing is said of the order in which a reader finds out, nor of faults.
use Rattle.std.specs.Prelude.{◌≡◌, ℕ, Bool, true, false, List, [], ◌∷◌, codes, Option, Some, None, IsTrue, IsFalse}
use Rattle.std.specs.Str.{str_eq_ignore_ascii_case}
use Rattle.frac128.specs.Fraction.{Fraction}
use Rattle.model_data.specs.declared.model.Direction.{Direction}
use Rattle.model_data.specs.declared.model.Direction.TheVariants.{Minimize as minimizing, Maximize as maximizing}
use Rattle.model_data.specs.declared.model.Model.{Model}
use Rattle.model_data.specs.declared.model.Sense.{Sense}
use Rattle.model_data.specs.declared.model.Sense.TheVariants.{Less, Greater}
use Rattle.model_data.specs.declared.model.VarKind.{VarKind}
use Rattle.model_data.specs.declared.model.VarKind.TheVariants.{Integer, Binary as binary_kind}
use Rattle.lp_defs.specs.declared.token.SectionWord.TheVariants.{Minimize, Maximize, Subject, Such, Constraints, Bounds, General, Binary, Free, End}
use Rattle.lp_defs.specs.Draft.{Unfinished, blank, change_var, close_row, default_title, freed, has_room_for_row, knows_row, mention, new_row, objective_sum, row_sum, with_constant, with_kind, with_objective, with_term}
use Rattle.lp_defs.specs.Quantity.{Limit, limit_of, may_bound, turned, under_sign, unit, value_of, with_bound}
use Rattle.lp_defs.specs.Symbols.{Quantity, Seen, Spot, token, sign, colon, comparison, number, keyword, label, name}

-- an optional sign token, and whether it is a minus
pub data OptionalSign : List Seen → Bool → List Seen → Type 0 where
  unsigned : {xs : List Seen} → OptionalSign xs false xs
  signed : {spot : Spot} {negative : Bool} {xs : List Seen} → OptionalSign (token spot (sign negative) ∷ xs) negative xs

-- An optional sign token and a number. They multiply where the number has a sign of its own.
pub record Amount (xs : List Seen) (quantity : Quantity) (ys : List Seen) : Type 0 where
  pub negative : Bool
  pub spot : Spot
  pub has_sign : Bool
  pub written : Quantity
  pub tokens : OptionalSign xs negative (token spot (number has_sign written) ∷ ys)
  pub value : under_sign negative written ≡ quantity

-- an amount where a finite number stands
pub record FiniteAmount (xs : List Seen) (x : Fraction) (ys : List Seen) : Type 0 where
  pub quantity : Quantity
  pub amount : Amount xs quantity ys
  pub value : value_of quantity ≡ Some x

-- an amount of a bound
pub record LimitAmount (xs : List Seen) (limit : Limit) (ys : List Seen) : Type 0 where
  pub quantity : Quantity
  pub amount : Amount xs quantity ys
  pub value : limit_of quantity ≡ Some limit

-- a name, and the coefficient in front of it: a sign and a number, each where it is written
pub data NamedTerm : List Seen → Fraction → List ℕ → List Seen → Type 0 where
  lone : {xs ys : List Seen} {negative : Bool} {spot : Spot} {text : List ℕ} →
      OptionalSign xs negative (token spot (name text) ∷ ys) → NamedTerm xs (unit negative) text ys
  scaled : {xs ys : List Seen} {x : Fraction} {spot : Spot} {text : List ℕ} →
      FiniteAmount xs x (token spot (name text) ∷ ys) → NamedTerm xs x text ys

-- a term that isn't the first one begins so
abbrev pub begins_with_sign : List Seen → Bool
begins_with_sign (token spot (sign negative) ∷ xs) = true
begins_with_sign (token spot (number true quantity) ∷ xs) = true
begins_with_sign xs = false

-- an optional label: one token, or a name and a colon
pub data OptionalLabel : List Seen → Option (List ℕ) → List Seen → Type 0 where
  unlabelled : {xs : List Seen} → OptionalLabel xs None xs
  one_token : {spot : Spot} {text : List ℕ} {xs : List Seen} → OptionalLabel (token spot (label text) ∷ xs) (Some text) xs
  two_tokens : {spot colon_spot : Spot} {text : List ℕ} {xs : List Seen} →
      OptionalLabel (token spot (name text) ∷ token colon_spot colon ∷ xs) (Some text) xs

-- the term's sum of coefficients fits, and its variable is within the limit
pub record AddsToObjective (text : List ℕ) (x : Fraction) (m told : Model) : Type 0 where
  pub sum : Fraction
  pub sum_is : objective_sum text x m ≡ Some sum
  pub told_is : with_objective text sum m ≡ Some told

-- a term of the objective, or a number alone, which is added to the constant
pub data ObjectivePart (xs : List Seen) (m : Model) (ys : List Seen) (told : Model) : Type 0 where
  term : (x : Fraction) (text : List ℕ) → NamedTerm xs x text ys → AddsToObjective text x m told → ObjectivePart xs m ys told
  alone : (x : Fraction) → FiniteAmount xs x ys → with_constant x m ≡ Some told → ObjectivePart xs m ys told

pub data MoreObjective : List Seen → Model → List Seen → Model → Type 0 where
  none : {xs : List Seen} {m : Model} → MoreObjective xs m xs m
  more : {xs ys zs : List Seen} {m told whole : Model} →
      IsTrue (begins_with_sign xs) → ObjectivePart xs m ys told → MoreObjective ys told zs whole → MoreObjective xs m zs whole

-- any number of parts, the first of which needs no sign
pub data ObjectiveParts : List Seen → Model → List Seen → Model → Type 0 where
  nothing : {xs : List Seen} {m : Model} → ObjectiveParts xs m xs m
  first : {xs ys zs : List Seen} {m told whole : Model} →
      ObjectivePart xs m ys told → MoreObjective ys told zs whole → ObjectiveParts xs m zs whole

-- The label is dropped.
pub record Objective (xs : List Seen) (m : Model) (ys : List Seen) (told : Model) : Type 0 where
  pub title : Option (List ℕ)
  pub behind_label : List Seen
  pub has_label : OptionalLabel xs title behind_label
  pub parts : ObjectiveParts behind_label m ys told

-- one word, or two
pub data ConstraintsWord : List Seen → List Seen → Type 0 where
  short : {spot : Spot} {xs : List Seen} → ConstraintsWord (token spot (keyword Constraints) ∷ xs) xs
  subject_to : {spot second : Spot} {text : List ℕ} {xs : List Seen} → IsTrue (str_eq_ignore_ascii_case (codes "to") text) →
      ConstraintsWord (token spot (keyword Subject) ∷ token second (name text) ∷ xs) xs
  such_that : {spot second : Spot} {text : List ℕ} {xs : List Seen} → IsTrue (str_eq_ignore_ascii_case (codes "that") text) →
      ConstraintsWord (token spot (keyword Such) ∷ token second (name text) ∷ xs) xs

-- the term's sum of coefficients fits, and its variable and the count of terms are within their limits
pub record AddsToRow (text : List ℕ) (x : Fraction) (u told : Unfinished) : Type 0 where
  pub sum : Fraction
  pub sum_is : row_sum text x u ≡ Some sum
  pub told_is : with_term text sum u ≡ Some told

pub record RowTerm (xs : List Seen) (u : Unfinished) (ys : List Seen) (told : Unfinished) : Type 0 where
  pub coefficient : Fraction
  pub text : List ℕ
  pub tokens : NamedTerm xs coefficient text ys
  pub adds : AddsToRow text coefficient u told

pub data MoreTerms : List Seen → Unfinished → List Seen → Unfinished → Type 0 where
  none : {xs : List Seen} {u : Unfinished} → MoreTerms xs u xs u
  more : {xs ys zs : List Seen} {u told whole : Unfinished} →
      IsTrue (begins_with_sign xs) → RowTerm xs u ys told → MoreTerms ys told zs whole → MoreTerms xs u zs whole

-- any number of terms, the first of which needs no sign
pub data RowTerms : List Seen → Unfinished → List Seen → Unfinished → Type 0 where
  nothing : {xs : List Seen} {u : Unfinished} → RowTerms xs u xs u
  first : {xs ys zs : List Seen} {u told whole : Unfinished} →
      RowTerm xs u ys told → MoreTerms ys told zs whole → RowTerms xs u zs whole

-- A row without a label is named by its place.
abbrev pub title_or_default : Option (List ℕ) → Model → List ℕ
title_or_default (Some text) m = text
title_or_default None m = default_title m

-- No row before has the name, and the row is within the limit.
pub record MayOpen (text : List ℕ) (m : Model) : Type 0 where
  pub is_new : IsFalse (knows_row text m)
  pub has_room : IsTrue (has_room_for_row m)

pub record SpellsRow (xs : List Seen) (m : Model) (ys : List Seen) (told : Model) : Type 0 where
  pub title : Option (List ℕ)
  pub behind_label : List Seen
  pub has_label : OptionalLabel xs title behind_label
  pub may_open : MayOpen (title_or_default title m) m
  pub whole : Unfinished
  pub spot : Spot
  pub sense : Sense
  pub behind_sense : List Seen
  pub terms : RowTerms behind_label (new_row (title_or_default title m) m) (token spot (comparison sense) ∷ behind_sense) whole
  pub side : Fraction
  pub has_side : FiniteAmount behind_sense side ys
  pub told_is : close_row sense side whole ≡ told

abbrev pub begins_with_comparison : List Seen → Bool
begins_with_comparison (token spot (comparison sense) ∷ xs) = true
begins_with_comparison xs = false

-- A row behind another one doesn't begin with its comparison.
pub data MoreRows : List Seen → Model → List Seen → Model → Type 0 where
  none : {xs : List Seen} {m : Model} → MoreRows xs m xs m
  more : {xs ys zs : List Seen} {m told whole : Model} →
      IsFalse (begins_with_comparison xs) → SpellsRow xs m ys told → MoreRows ys told zs whole → MoreRows xs m zs whole

-- any number of rows
pub data Rows : List Seen → Model → List Seen → Model → Type 0 where
  nothing : {xs : List Seen} {m : Model} → Rows xs m xs m
  first : {xs ys zs : List Seen} {m told whole : Model} →
      SpellsRow xs m ys told → MoreRows ys told zs whole → Rows xs m zs whole

-- twice less or twice greater
pub data IsRising : Sense → Type 0 where
  upward : IsRising Less
  downward : IsRising Greater

-- the left part of a bound: a number, a comparison and a name
pub record LeftBound (xs : List Seen) (m : Model) (sense : Sense) (text : List ℕ) (ys : List Seen) (told : Model) : Type 0 where
  pub limit : Limit
  pub sense_spot : Spot
  pub name_spot : Spot
  pub has_limit : LimitAmount xs limit (token sense_spot (comparison sense) ∷ token name_spot (name text) ∷ ys)
  pub fits : IsTrue (may_bound (turned sense) limit)
  pub known : Model
  pub known_is : mention text m ≡ Some known
  pub told_is : change_var text (with_bound (turned sense) limit) known ≡ told

-- the right part of a bound: the number behind a comparison
pub record RightBound (xs : List Seen) (m : Model) (sense : Sense) (text : List ℕ) (ys : List Seen) (told : Model) : Type 0 where
  pub limit : Limit
  pub has_limit : LimitAmount xs limit ys
  pub fits : IsTrue (may_bound sense limit)
  pub told_is : change_var text (with_bound sense limit) m ≡ told

pub data Bound : List Seen → Model → List Seen → Model → Type 0 where
  free : {spot free_spot : Spot} {text : List ℕ} {xs : List Seen} {m known : Model} → mention text m ≡ Some known →
      Bound (token spot (name text) ∷ token free_spot (keyword Free) ∷ xs) m xs (change_var text freed known)
  right : {spot sense_spot : Spot} {text : List ℕ} {sense : Sense} {xs ys : List Seen} {m known told : Model} →
      mention text m ≡ Some known → RightBound xs known sense text ys told →
      Bound (token spot (name text) ∷ token sense_spot (comparison sense) ∷ xs) m ys told
  left : {sense : Sense} {text : List ℕ} {xs ys : List Seen} {m told : Model} → LeftBound xs m sense text ys told → Bound xs m ys told
  both : {spot : Spot} {sense : Sense} {text : List ℕ} {xs ys zs : List Seen} {m between told : Model} → IsRising sense →
      LeftBound xs m sense text (token spot (comparison sense) ∷ ys) between → RightBound ys between sense text zs told →
      Bound xs m zs told

pub data BoundList : List Seen → Model → List Seen → Model → Type 0 where
  none : {xs : List Seen} {m : Model} → BoundList xs m xs m
  more : {xs ys zs : List Seen} {m told whole : Model} → Bound xs m ys told → BoundList ys told zs whole → BoundList xs m zs whole

-- the variables that are named get the kind
pub data NameList (kind : VarKind) : List Seen → Model → List Seen → Model → Type 0 where
  none : {xs : List Seen} {m : Model} → NameList kind xs m xs m
  more : {spot : Spot} {text : List ℕ} {xs ys : List Seen} {m known told : Model} → mention text m ≡ Some known →
      NameList kind xs (change_var text (with_kind kind) known) ys told → NameList kind (token spot (name text) ∷ xs) m ys told

-- one section
pub data SpellsSection : List Seen → Model → List Seen → Model → Type 0 where
  bounds : {spot : Spot} {xs ys : List Seen} {m told : Model} →
      BoundList xs m ys told → SpellsSection (token spot (keyword Bounds) ∷ xs) m ys told
  general : {spot : Spot} {xs ys : List Seen} {m told : Model} →
      NameList Integer xs m ys told → SpellsSection (token spot (keyword General) ∷ xs) m ys told
  binary : {spot : Spot} {xs ys : List Seen} {m told : Model} →
      NameList binary_kind xs m ys told → SpellsSection (token spot (keyword Binary) ∷ xs) m ys told

-- any number of sections, in any order
pub data Sections : List Seen → Model → List Seen → Model → Type 0 where
  none : {xs : List Seen} {m : Model} → Sections xs m xs m
  more : {xs ys zs : List Seen} {m told whole : Model} →
      SpellsSection xs m ys told → Sections ys told zs whole → Sections xs m zs whole

pub data ObjectiveWord : List Seen → Direction → List Seen → Type 0 where
  minimize : {spot : Spot} {xs : List Seen} → ObjectiveWord (token spot (keyword Minimize) ∷ xs) minimizing xs
  maximize : {spot : Spot} {xs : List Seen} → ObjectiveWord (token spot (keyword Maximize) ∷ xs) maximizing xs

-- rows, sections, and `end`, behind which nothing follows
pub record SpellsRest (xs : List Seen) (m : Model) (told : Model) : Type 0 where
  pub with_rows : Model
  pub behind_rows : List Seen
  pub rows : Rows xs m behind_rows with_rows
  pub spot : Spot
  pub sections : Sections behind_rows with_rows (token spot (keyword End) ∷ []) told

-- the tokens spell the model
pub record SpellsModel (xs : List Seen) (told : Model) : Type 0 where
  pub direction : Direction
  pub behind_word : List Seen
  pub word : ObjectiveWord xs direction behind_word
  pub with_objective : Model
  pub behind_objective : List Seen
  pub objective : Objective behind_word (blank direction) behind_objective with_objective
  pub behind_constraints : List Seen
  pub constraints : ConstraintsWord behind_objective behind_constraints
  pub rest : SpellsRest behind_constraints with_objective told
