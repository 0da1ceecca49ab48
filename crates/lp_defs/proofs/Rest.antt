-- What the rest of a text spells from a stage of its reading on. Behind a part of a production the tokens of that part are
-- put back in front.
use Rattle.std.proofs.Common.{◌≡◌, ℕ, IsTrue, ◌∷◌, [], List, Some, Ok}
use Rattle.std.specs.Str.{str_eq_ignore_ascii_case}
use Rattle.frac128.specs.Fraction.{Fraction}
use Rattle.model_data.specs.declared.model.Model.{Model}
use Rattle.model_data.specs.declared.model.Sense.{Sense}
use Rattle.model_data.specs.declared.model.VarKind.{VarKind}
use Rattle.lp_defs.specs.declared.token.SectionWord.TheVariants.{End}
use Rattle.lp_defs.specs.Draft.{Unfinished, close_row, mention}
use Rattle.lp_defs.specs.Grammar.{FiniteAmount, LimitAmount, ObjectivePart, MoreObjective, ObjectiveParts, Objective, ConstraintsWord, RowTerm, MoreTerms, RowTerms, SpellsRow, MoreRows, LeftBound, RightBound, Bound, BoundList, NameList, Sections, SpellsRest, SpellsModel}
use Rattle.lp_defs.specs.Quantity.{may_bound, turned}
use Rattle.lp_defs.specs.Reading.{reading_from}
use Rattle.lp_defs.specs.Stage.{Stage, start, objective_start, objective_title, objective_first, objective_sign, objective_number, objective_next, second_word, rows_start, rows_next, row_title, row_first, row_sign, row_number, row_next, row_side, row_side_sign, bounds, bound_name, bound_side, bound_side_sign, bound_sign, bound_number, bound_middle, bound_end, kinds, ended}
use Rattle.lp_defs.specs.Symbols.{Seen, Spot, token, sign, comparison, keyword, name}

pub record FromConstraints (m : Model) (xs : List Seen) (r : Model) : Type 0 where
  pub behind : List Seen
  pub word : ConstraintsWord xs behind
  pub rest : SpellsRest behind m r

pub record FromNext (m : Model) (xs : List Seen) (r : Model) : Type 0 where
  pub behind : List Seen
  pub told : Model
  pub parts : MoreObjective xs m behind told
  pub rest : FromConstraints told behind r

pub record FromFirst (m : Model) (xs : List Seen) (r : Model) : Type 0 where
  pub behind : List Seen
  pub told : Model
  pub parts : ObjectiveParts xs m behind told
  pub rest : FromConstraints told behind r

pub record FromPart (m : Model) (xs : List Seen) (r : Model) : Type 0 where
  pub behind : List Seen
  pub told : Model
  pub part : ObjectivePart xs m behind told
  pub rest : FromNext told behind r

pub record FromObjective (m : Model) (xs : List Seen) (r : Model) : Type 0 where
  pub behind : List Seen
  pub told : Model
  pub objective : Objective xs m behind told
  pub rest : FromConstraints told behind r

pub record FromSecond (wanted : List ℕ) (m : Model) (xs : List Seen) (r : Model) : Type 0 where
  pub spot : Spot
  pub text : List ℕ
  pub behind : List Seen
  pub tokens : xs ≡ token spot (name text) ∷ behind
  pub is_wanted : IsTrue (str_eq_ignore_ascii_case wanted text)
  pub rest : SpellsRest behind m r

pub record FromSections (m : Model) (xs : List Seen) (r : Model) : Type 0 where
  pub spot : Spot
  pub sections : Sections xs m (token spot (keyword End) ∷ []) r

pub record FromRows (m : Model) (xs : List Seen) (r : Model) : Type 0 where
  pub behind : List Seen
  pub told : Model
  pub rows : MoreRows xs m behind told
  pub rest : FromSections told behind r

pub record FromRow (m : Model) (xs : List Seen) (r : Model) : Type 0 where
  pub behind : List Seen
  pub told : Model
  pub row : SpellsRow xs m behind told
  pub rest : FromRows told behind r

pub record FromSide (sense : Sense) (u : Unfinished) (xs : List Seen) (r : Model) : Type 0 where
  pub side : Fraction
  pub behind : List Seen
  pub has_side : FiniteAmount xs side behind
  pub rest : FromRows (close_row sense side u) behind r

pub record FromTerms (u : Unfinished) (xs : List Seen) (r : Model) : Type 0 where
  pub whole : Unfinished
  pub spot : Spot
  pub sense : Sense
  pub behind : List Seen
  pub terms : RowTerms xs u (token spot (comparison sense) ∷ behind) whole
  pub rest : FromSide sense whole behind r

pub record FromMoreTerms (u : Unfinished) (xs : List Seen) (r : Model) : Type 0 where
  pub whole : Unfinished
  pub spot : Spot
  pub sense : Sense
  pub behind : List Seen
  pub terms : MoreTerms xs u (token spot (comparison sense) ∷ behind) whole
  pub rest : FromSide sense whole behind r

pub record FromTerm (u : Unfinished) (xs : List Seen) (r : Model) : Type 0 where
  pub behind : List Seen
  pub told : Unfinished
  pub term : RowTerm xs u behind told
  pub rest : FromMoreTerms told behind r

pub record FromBounds (m : Model) (xs : List Seen) (r : Model) : Type 0 where
  pub behind : List Seen
  pub told : Model
  pub list : BoundList xs m behind told
  pub rest : FromSections told behind r

pub record FromBound (m : Model) (xs : List Seen) (r : Model) : Type 0 where
  pub behind : List Seen
  pub told : Model
  pub bound : Bound xs m behind told
  pub rest : FromBounds told behind r

pub record FromRight (sense : Sense) (text : List ℕ) (m : Model) (xs : List Seen) (r : Model) : Type 0 where
  pub behind : List Seen
  pub told : Model
  pub part : RightBound xs m sense text behind told
  pub rest : FromBounds told behind r

pub record FromNames (kind : VarKind) (m : Model) (xs : List Seen) (r : Model) : Type 0 where
  pub behind : List Seen
  pub told : Model
  pub list : NameList kind xs m behind told
  pub rest : FromSections told behind r

abbrev pub Rest : Stage → List Seen → Model → Type 0
Rest start xs r = SpellsModel xs r
Rest (objective_start m) xs r = FromObjective m xs r
Rest (objective_title _ text m) xs r = (s : Spot) → FromObjective m (token s (name text) ∷ xs) r
Rest (objective_first m) xs r = FromFirst m xs r
Rest (objective_sign negative m) xs r = (s : Spot) → FromPart m (token s (sign negative) ∷ xs) r
Rest (objective_number _ x m) xs r = (ws : List Seen) → FiniteAmount ws x xs → FromPart m ws r
Rest (objective_next m) xs r = FromNext m xs r
Rest (second_word wanted m) xs r = FromSecond wanted m xs r
Rest (rows_start m) xs r = SpellsRest xs m r
Rest (rows_next m) xs r = FromRows m xs r
Rest (row_title _ text m) xs r = (s : Spot) → FromRow m (token s (name text) ∷ xs) r
Rest (row_first u) xs r = FromTerms u xs r
Rest (row_sign _ negative u) xs r = (s : Spot) → FromTerm u (token s (sign negative) ∷ xs) r
Rest (row_number _ _ x u) xs r = (ws : List Seen) → FiniteAmount ws x xs → FromTerm u ws r
Rest (row_next u) xs r = FromMoreTerms u xs r
Rest (row_side sense u) xs r = FromSide sense u xs r
Rest (row_side_sign negative sense u) xs r = (s : Spot) → FromSide sense u (token s (sign negative) ∷ xs) r
Rest (bounds m) xs r = FromBounds m xs r
Rest (bound_name text known) xs r = (s : Spot) (m : Model) → mention text m ≡ Some known → FromBound m (token s (name text) ∷ xs) r
Rest (bound_side sense text m) xs r = FromRight sense text m xs r
Rest (bound_side_sign negative sense text m) xs r = (s : Spot) → FromRight sense text m (token s (sign negative) ∷ xs) r
Rest (bound_sign negative m) xs r = (s : Spot) → FromBound m (token s (sign negative) ∷ xs) r
Rest (bound_number _ limit m) xs r = (ws : List Seen) → LimitAmount ws limit xs → FromBound m ws r
Rest (bound_middle limit sense m) xs r =
    (ws : List Seen) (s : Spot) → LimitAmount ws limit (token s (comparison sense) ∷ xs) → IsTrue (may_bound (turned sense) limit) → FromBound m ws r
Rest (bound_end sense text told) xs r = (ws : List Seen) (m : Model) → LeftBound ws m sense text xs told → FromBound m ws r
Rest (kinds kind m) xs r = FromNames kind m xs r
Rest (ended m) xs r = (xs ≡ []) × (m ≡ r)

-- each stage's reading of the tokens is known for what it spells
pub record Known (xs : List Seen) (end : Spot) (r : Model) : Type 0 where
  pub of : (stage : Stage) → reading_from stage xs end ≡ Ok r → Rest stage xs r
