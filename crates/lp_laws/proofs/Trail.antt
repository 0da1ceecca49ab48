-- What the tokens before a stage are, as far as the laws of faults speak of them.
use Rattle.std.proofs.Common.{◌≡◌, refl, ◌∙◌, ap, ◌⊎◌, ℕ, Bool, true, false, ◌||◌, List, [], ◌∷◌, ◌++◌, append_assoc, Some, None, IsTrue, IsFalse, Result, Ok, Err}
use Rattle.std.proofs.lemmas.Bool.{or_left, or_right}
use Rattle.std.proofs.lemmas.List.Folds.{list_any-append}
use Rattle.base_names.specs.declared.refusal.FaultWord.{FaultWord}
use Rattle.base_names.specs.declared.refusal.FaultWord.TheVariants.{Word}
use Rattle.frac128.specs.Fraction.{Fraction}
use Rattle.model_data.specs.declared.model.Model.{Model}
use Rattle.model_data.specs.declared.model.Sense.{Sense}
use Rattle.lp_defs.specs.declared.fault.ModelFault.{ModelFault}
use Rattle.lp_defs.specs.Draft.{Unfinished}
use Rattle.lp_defs.specs.Grammar.{Amount, FiniteAmount, OptionalSign, unsigned, signed, begins_with_sign}
use Rattle.lp_defs.specs.Quantity.{under_sign, value_of}
use Rattle.lp_defs.specs.Reading.{stage_behind}
use Rattle.lp_defs.specs.Stage.{Stage, start, objective_start, objective_title, objective_first, objective_sign, objective_number, objective_next, second_word, rows_start, rows_next, row_title, row_first, row_sign, row_number, row_next, row_side, row_side_sign, bounds, bound_name, bound_side, bound_side_sign, bound_sign, bound_number, bound_middle, bound_end, kinds, ended}
use Rattle.lp_defs.specs.Symbols.{Quantity, Seen, Spot, Symbol, token, comparison, name, number, sign, fault_at}
use Rattle.lp_laws.specs.Faults.{IsNamed}
use Rattle.lp_laws.specs.Told.{BeginsRow, TakesTerm, first_in_row, later_in_row, row, TellsObjective, TellsRows, TellsSections, TellsTerms, begins_section, begins_with_label, has_rows, has_section}
use Rattle.lp_laws.proofs.Lasting.{Lasts}
use Rattle.lp_laws.proofs.Blank.{IsBlank}
use Rattle.lp_laws.proofs.Waits.{TitleIsFirst, Waits, pending}

-- Sections

section_by : (front : List Seen) (x : Seen) → has_section (front ++ x ∷ []) ≡ (has_section front || (begins_section x || false))
section_by front x = list_any-append begins_section front (x ∷ [])

pub still_outside : (front : List Seen) (x : Seen) → has_section front ≡ false → begins_section x ≡ false → has_section (front ++ x ∷ []) ≡ false
still_outside front x out none = section_by front x ∙ (ap (λ b. b || (begins_section x || false)) out ∙ ap (λ b. b || false) none)

pub still_inside : (front : List Seen) (x : Seen) → has_section front ≡ true → has_section (front ++ x ∷ []) ≡ true
still_inside front x in_it = section_by front x ∙ or_left (has_section front) (begins_section x || false) in_it

pub now_inside : (front : List Seen) (x : Seen) → begins_section x ≡ true → has_section (front ++ x ∷ []) ≡ true
now_inside front x begins = section_by front x ∙ or_right (has_section front) (begins_section x || false) (or_left (begins_section x) false begins)

-- Terms

-- where a term of a row stands, and whether it is the first one
pub data RowPart (before : List Seen) : Bool → Unfinished → Type 0 where
  first : {u : Unfinished} → ((rest : List Seen) → IsFalse (begins_with_label rest) → BeginsRow before rest u) → RowPart before true u
  later : {u : Unfinished} → TellsTerms before u → RowPart before false u

pub takes_term : {before : List Seen} (head : Bool) {u : Unfinished} (rest : List Seen) → RowPart before head u → (head ≡ false → IsTrue (begins_with_sign rest)) →
    IsFalse (begins_with_label rest) → TakesTerm before rest (row u)
takes_term _ rest (first begins) marked plain = first_in_row (begins rest plain)
takes_term _ rest (later told) marked plain = later_in_row told (marked refl)

pub record ObjectiveSign (xs : List Seen) (negative : Bool) (m : Model) : Type 0 where
  pub outside : has_section xs ≡ false
  pub no_rows : m.rows ≡ []
  pub before : List Seen
  pub spot : Spot
  pub tokens : xs ≡ before ++ token spot (sign negative) ∷ []
  pub told : TellsObjective before m

pub record ObjectiveNumber (xs : List Seen) (x : Fraction) (m : Model) : Type 0 where
  pub outside : has_section xs ≡ false
  pub no_rows : m.rows ≡ []
  pub before : List Seen
  pub own : List Seen
  pub tokens : xs ≡ before ++ own
  pub told : TellsObjective before m
  pub amount : FiniteAmount own x []
  pub marked : ((rest : List Seen) → IsTrue (begins_with_sign (own ++ rest))) ⊎ IsBlank m

pub record RowSign (xs : List Seen) (head negative : Bool) (u : Unfinished) : Type 0 where
  pub outside : has_section xs ≡ false
  pub before : List Seen
  pub spot : Spot
  pub tokens : xs ≡ before ++ token spot (sign negative) ∷ []
  pub part : RowPart before head u

pub record RowNumber (xs : List Seen) (head : Bool) (x : Fraction) (u : Unfinished) : Type 0 where
  pub outside : has_section xs ≡ false
  pub before : List Seen
  pub own : List Seen
  pub tokens : xs ≡ before ++ own
  pub amount : FiniteAmount own x []
  pub part : RowPart before head u
  pub marked : head ≡ false → (rest : List Seen) → IsTrue (begins_with_sign (own ++ rest))
  pub plain : (rest : List Seen) → IsFalse (begins_with_label (own ++ rest))

pub record RowTitle (xs : List Seen) (t : Spot) (title : List ℕ) (m : Model) : Type 0 where
  pub outside : has_section xs ≡ false
  pub before : List Seen
  pub tokens : xs ≡ before ++ token t (name title) ∷ []
  pub told : TellsRows before m

pub record BoundSign (xs : List Seen) (negative : Bool) (m : Model) : Type 0 where
  pub inside : has_section xs ≡ true
  pub before : List Seen
  pub spot : Spot
  pub tokens : xs ≡ before ++ token spot (sign negative) ∷ []
  pub told : TellsSections before m

-- behind a bound's first number, and the tokens behind that
pub record BoundNumber (xs behind : List Seen) (m : Model) : Type 0 where
  pub inside : has_section xs ≡ true
  pub before : List Seen
  pub own : List Seen
  pub tokens : xs ≡ before ++ own
  pub told : TellsSections before m
  pub quantity : Quantity
  pub amount : Amount own quantity behind

pub record AtHead (xs : List Seen) (m : Model) : Type 0 where
  pub outside : has_section xs ≡ false
  pub blank : IsBlank m

pub record RowLess (xs : List Seen) (m : Model) : Type 0 where
  pub outside : has_section xs ≡ false
  pub no_rows : m.rows ≡ []

-- behind a bound's first number and its comparison
pub record BoundSense (xs : List Seen) (sense : Sense) (m : Model) : Type 0 where
  pub spot : Spot
  pub number : BoundNumber xs (token spot (comparison sense) ∷ []) m

abbrev pub Trail : List Seen → Stage → Type 0
Trail xs start = xs ≡ []
Trail xs (objective_start m) = AtHead xs m
Trail xs (objective_title t title m) = AtHead xs m
Trail xs (objective_first m) = AtHead xs m
Trail xs (objective_sign negative m) = ObjectiveSign xs negative m
Trail xs (objective_number t x m) = ObjectiveNumber xs x m
Trail xs (objective_next m) = RowLess xs m
Trail xs (second_word wanted m) = RowLess xs m
Trail xs (rows_start m) = RowLess xs m
Trail xs (rows_next m) = (has_section xs ≡ false) × (has_rows m ≡ true)
Trail xs (row_title t title m) = RowTitle xs t title m
Trail xs (row_first u) = (has_section xs ≡ false) × ((rest : List Seen) → BeginsRow xs rest u)
Trail xs (row_sign head negative u) = RowSign xs head negative u
Trail xs (row_number head t x u) = RowNumber xs head x u
Trail xs (row_next u) = has_section xs ≡ false
Trail xs (row_side sense u) = has_section xs ≡ false
Trail xs (row_side_sign negative sense u) = has_section xs ≡ false
Trail xs (bound_sign negative m) = BoundSign xs negative m
Trail xs (bound_number t l m) = BoundNumber xs [] m
Trail xs (bound_middle l sense m) = BoundSense xs sense m
Trail xs (bounds m) = has_section xs ≡ true
Trail xs (bound_name text m) = has_section xs ≡ true
Trail xs (bound_side sense text m) = has_section xs ≡ true
Trail xs (bound_side_sign negative sense text m) = has_section xs ≡ true
Trail xs (bound_end sense text m) = has_section xs ≡ true
Trail xs (kinds kind m) = has_section xs ≡ true
Trail xs (ended m) = Unit {0}

-- the stage behind tokens of which none is wrong, before the rest
pub record Here (front rest : List Seen) (stage : Stage) : Type 0 where
  pub at : stage_behind start front ≡ Ok stage
  pub lasting : Lasts stage
  pub trail : Trail front stage
  pub quiet : pending stage rest ≡ None

-- What a step tells

-- a stage that the step leads to
pub record Going (front : List Seen) (s : Spot) (symbol : Symbol) (more : List Seen) (next : Stage) : Type 0 where
  pub trail : Trail (front ++ token s symbol ∷ []) next
  pub waits : (w : FaultWord) → pending next more ≡ Some w → IsNamed front (token s symbol ∷ more) w
  pub last : Waits next s symbol

-- a fault at the token
pub data Stop (front : List Seen) (s : Spot) (symbol : Symbol) (more : List Seen) : ModelFault → Type 0 where
  as_word : Stop front s symbol more (fault_at s Word)
  as_named : {w : FaultWord} → IsNamed front (token s symbol ∷ more) w → Stop front s symbol more (fault_at s w)

abbrev pub Judged : List Seen → Spot → Symbol → List Seen → Result Stage ModelFault → Type 0
Judged front s symbol more (Ok next) = Going front s symbol more next
Judged front s symbol more (Err f) = Stop front s symbol more f

-- Amounts

pub widen : {own : List Seen} {negative : Bool} (ys : List Seen) → OptionalSign own negative [] → OptionalSign (own ++ ys) negative ys
widen ys unsigned = unsigned
widen ys signed = signed

pub amount_of : {own : List Seen} {negative : Bool} (s : Spot) (has_sign : Bool) (q : Quantity) (ys : List Seen) → OptionalSign own negative [] →
    Amount (own ++ token s (number has_sign q) ∷ ys) (under_sign negative q) ys
amount_of {negative} s has_sign q ys o = record { negative = negative; spot = s; has_sign = has_sign; written = q; tokens = widen (token s (number has_sign q) ∷ ys) o; value = refl }

pub finite_amount : {own : List Seen} {negative : Bool} (s : Spot) (has_sign : Bool) (q : Quantity) (x : Fraction) → OptionalSign own negative [] →
    value_of (under_sign negative q) ≡ Some x → FiniteAmount (own ++ token s (number has_sign q) ∷ []) x []
finite_amount {negative} s has_sign q x o e = record { quantity = under_sign negative q; amount = amount_of s has_sign q [] o; value = e }

pub no_label : {own : List Seen} {negative : Bool} (s : Spot) (has_sign : Bool) (q : Quantity) (ys : List Seen) → OptionalSign own negative [] →
    IsFalse (begins_with_label (own ++ token s (number has_sign q) ∷ ys))
no_label s has_sign q ys unsigned = refl
no_label s has_sign q ys signed = refl

-- tokens that end with one more
pub longer : {front : List Seen} (before own : List Seen) (x : Seen) → front ≡ before ++ own → front ++ x ∷ [] ≡ before ++ (own ++ x ∷ [])
longer before own x e = ap (λ xs. xs ++ x ∷ []) e ∙ append_assoc before own (x ∷ [])

pub title_first : (front : List Seen) (stage : Stage) → Trail front stage → TitleIsFirst stage
title_first front (objective_title t title m) trail = trail.blank
title_first front stage trail = tt
