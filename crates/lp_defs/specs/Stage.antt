-- How far a text has been read: which production is going on, and what it has told.
use Rattle.std.specs.Prelude.{ℕ, Bool, List}
use Rattle.frac128.specs.Fraction.{Fraction}
use Rattle.model_data.specs.declared.model.Model.{Model}
use Rattle.model_data.specs.declared.model.Sense.{Sense}
use Rattle.model_data.specs.declared.model.VarKind.{VarKind}
use Rattle.lp_defs.specs.Draft.{Unfinished}
use Rattle.lp_defs.specs.Quantity.{Limit}
use Rattle.lp_defs.specs.Symbols.{Spot}

pub data Stage : Type 0 where
  -- nothing is read
  start : Stage
  -- behind the objective word: a label or the first term
  objective_start : Model → Stage
  -- a name has been read first, which is a label where a colon follows, else a term
  objective_title : Spot → List ℕ → Model → Stage
  -- behind the label: the first term
  objective_first : Model → Stage
  -- behind a sign: a number or a name
  objective_sign : Bool → Model → Stage
  -- behind a number: its name, or else it belongs to the constant
  objective_number : Spot → Fraction → Model → Stage
  -- behind a term: a further one with a sign, or the constraints word
  objective_next : Model → Stage
  -- behind `subject` or `such`: the second word
  second_word : List ℕ → Model → Stage
  -- behind the constraints word: a row, a section or `end`
  rows_start : Model → Stage
  -- behind a row: the same
  rows_next : Model → Stage
  -- a row begins with a name, which is its label where a colon follows, else its first term's
  row_title : Spot → List ℕ → Model → Stage
  -- behind a label: the first term or the comparison
  row_first : Unfinished → Stage
  -- behind a sign of the first term, or of a later one
  row_sign : Bool → Bool → Unfinished → Stage
  -- behind the number of the first term, or of a later one: its name
  row_number : Bool → Spot → Fraction → Unfinished → Stage
  -- behind a term: a further one with a sign, or the comparison
  row_next : Unfinished → Stage
  -- behind the comparison: a sign or the right side
  row_side : Sense → Unfinished → Stage
  -- behind a sign: the right side
  row_side_sign : Bool → Sense → Unfinished → Stage
  -- in a section of bounds: a bound, a section or `end`
  bounds : Model → Stage
  -- behind a name: `free` or a comparison
  bound_name : List ℕ → Model → Stage
  -- behind a name and a comparison: a sign or the number
  bound_side : Sense → List ℕ → Model → Stage
  -- behind a sign: the number
  bound_side_sign : Bool → Sense → List ℕ → Model → Stage
  -- behind a sign in front of a bound's first number
  bound_sign : Bool → Model → Stage
  -- behind a bound's first number: a comparison
  bound_number : Spot → Limit → Model → Stage
  -- behind a number and a comparison: the name
  bound_middle : Limit → Sense → Model → Stage
  -- behind a number, a comparison and a name: the same comparison again, or what may follow a bound
  bound_end : Sense → List ℕ → Model → Stage
  -- in a list of names that are to have the kind: a name, a section or `end`
  kinds : VarKind → Model → Stage
  -- behind `end`
  ended : Model → Stage
