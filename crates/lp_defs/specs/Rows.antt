-- The productions of rows. Each says what may come next, and what that tells.
use Rattle.std.specs.Prelude.{ℕ, Bool, true, false, List, Result, Ok, Err, if◌then◌else◌}
use Rattle.base_names.specs.declared.refusal.FaultWord.{FaultWord}
use Rattle.base_names.specs.declared.refusal.FaultWord.TheVariants.{DoubledName, Number as bad_number, Size, Unsupported, Word}
use Rattle.frac128.specs.Checked.{◌>>=◌}
use Rattle.frac128.specs.Fraction.{Fraction}
use Rattle.model_data.specs.declared.model.Model.{Model}
use Rattle.model_data.specs.declared.model.Sense.{Sense}
use Rattle.model_data.specs.declared.model.VarKind.TheVariants.{Integer, Binary as binary_kind}
use Rattle.lp_defs.specs.declared.fault.ModelFault.{ModelFault}
use Rattle.lp_defs.specs.declared.token.SectionWord.{SectionWord}
use Rattle.lp_defs.specs.declared.token.SectionWord.TheVariants.{Binary, Bounds, End, General}
use Rattle.lp_defs.specs.Draft.{Unfinished, close_row, default_title, has_room_for_row, knows_row, new_row, row_sum, with_term}
use Rattle.lp_defs.specs.Objective.{Summand, lone_name, numbered_name}
use Rattle.lp_defs.specs.Quantity.{under_sign, value_of}
use Rattle.lp_defs.specs.Stage.{Stage, bounds, ended, kinds, row_first, row_next, row_number, row_side, row_side_sign, row_sign, row_title, rows_next}
use Rattle.lp_defs.specs.Symbols.{Quantity, Spot, Symbol, sign, colon, comparison, number, keyword, label, name, fault_at, or_fault}

-- A section word behind the rows, or behind a whole bound or a list of names: a further section, or `end`.
abbrev pub after_rows : Spot → SectionWord → Model → Result Stage ModelFault
after_rows spot Bounds m = Ok (bounds m)
after_rows spot General m = Ok (kinds Integer m)
after_rows spot Binary m = Ok (kinds binary_kind m)
after_rows spot End m = Ok (ended m)
after_rows spot word m = Err (fault_at spot Word)

-- A row begins at the spot. One of a name that is taken is refused there, and one past the limit too.
abbrev pub open_row : Spot → List ℕ → Model → Result Unfinished ModelFault
open_row spot text m =
    if knows_row text m then Err (fault_at spot DoubledName)
    else (if has_room_for_row m then Ok (new_row text m)
    else Err (fault_at spot Size))

-- A sum that doesn't fit is at fault at the number, and a variable or a term past its limit at the name.
abbrev pub add_to_row : Summand → Unfinished → Result Unfinished ModelFault
add_to_row s u = do
  sum ← or_fault s.number_spot bad_number (row_sum s.text s.coefficient u)
  or_fault s.name_spot Size (with_term s.text sum u)

abbrev pub row_term : Summand → Unfinished → Result Stage ModelFault
row_term summand u = do
  told ← add_to_row summand u
  Ok (row_next told)

-- a number of the first term or of a later one, with the sign in front of it
abbrev pub row_amount : Bool → Bool → Spot → Quantity → Unfinished → Result Stage ModelFault
row_amount first negative spot quantity u = do
  x ← or_fault spot bad_number (value_of (under_sign negative quantity))
  Ok (row_number first spot x u)

-- A sign stands before a number or a name.
abbrev pub after_row_sign : Bool → Bool → Spot → Symbol → Unfinished → Result Stage ModelFault
after_row_sign first negative spot (number signed quantity) u = row_amount first negative spot quantity u
after_row_sign first negative spot (name text) u = row_term (lone_name negative spot text) u
after_row_sign first negative spot symbol u = Err (fault_at spot Word)

-- A number that begins a row and stands alone on its left side is a form that isn't supported.
abbrev pub lone_number_fault : Bool → FaultWord
lone_number_fault true = Unsupported
lone_number_fault false = Word

-- A number on the left side stands before a name.
abbrev pub after_row_number : Bool → Spot → Fraction → Spot → Symbol → Unfinished → Result Stage ModelFault
after_row_number first number_spot x spot (name text) u = row_term (numbered_name number_spot x spot text) u
after_row_number first number_spot x spot (comparison sense) u = Err (fault_at spot (lone_number_fault first))
after_row_number first number_spot x spot symbol u = Err (fault_at spot Word)

-- Behind a term: the comparison, or a further term, which begins with a sign or with a number that has one.
abbrev pub after_row_term : Spot → Symbol → Unfinished → Result Stage ModelFault
after_row_term spot (sign negative) u = Ok (row_sign false negative u)
after_row_term spot (number true quantity) u = row_amount false false spot quantity u
after_row_term spot (comparison sense) u = Ok (row_side sense u)
after_row_term spot symbol u = Err (fault_at spot Word)

-- Behind a label: the first term, which needs no sign, or the comparison, since a row may have no terms.
abbrev pub after_row_label : Spot → Symbol → Unfinished → Result Stage ModelFault
after_row_label spot (sign negative) u = Ok (row_sign true negative u)
after_row_label spot (number signed quantity) u = row_amount true false spot quantity u
after_row_label spot (name text) u = row_term (lone_name false spot text) u
after_row_label spot (comparison sense) u = Ok (row_side sense u)
after_row_label spot symbol u = Err (fault_at spot Word)

-- a row with a label
abbrev pub labelled_row : Spot → List ℕ → Model → Result Stage ModelFault
labelled_row spot text m = do
  opened ← open_row spot text m
  Ok (row_first opened)

-- a row without a label, whose first token this is
abbrev pub unlabelled_row : Spot → Symbol → Model → Result Stage ModelFault
unlabelled_row spot symbol m = do
  opened ← open_row spot (default_title m) m
  after_row_label spot symbol opened

-- Behind a right side: a further row, a section or `end`. A row without a label and terms can't begin here.
abbrev pub after_row : Spot → Symbol → Model → Result Stage ModelFault
after_row spot (label text) m = labelled_row spot text m
after_row spot (name text) m = Ok (row_title spot text m)
after_row spot (sign negative) m = unlabelled_row spot (sign negative) m
after_row spot (number signed quantity) m = unlabelled_row spot (number signed quantity) m
after_row spot (comparison sense) m = Err (fault_at spot Unsupported)
after_row spot (keyword word) m = after_rows spot word m
after_row spot colon m = Err (fault_at spot Word)

-- Behind the constraints word a row may begin with its comparison too.
abbrev pub after_constraints : Spot → Symbol → Model → Result Stage ModelFault
after_constraints spot (comparison sense) m = unlabelled_row spot (comparison sense) m
after_constraints spot symbol m = after_row spot symbol m

-- A name at the head of a row that no colon follows is its first term's, and the row has no label.
abbrev pub settle_row_title : Spot → List ℕ → Model → Result Unfinished ModelFault
settle_row_title title_spot title m = do
  opened ← open_row title_spot (default_title m) m
  add_to_row (lone_name false title_spot title) opened

abbrev pub after_row_title : Spot → List ℕ → Spot → Symbol → Model → Result Stage ModelFault
after_row_title title_spot title spot colon m = labelled_row title_spot title m
after_row_title title_spot title spot symbol m = do
  told ← settle_row_title title_spot title m
  after_row_term spot symbol told

-- the right side, with the sign in front of it
abbrev pub right_side : Bool → Sense → Spot → Quantity → Unfinished → Result Stage ModelFault
right_side negative sense spot quantity u = do
  x ← or_fault spot bad_number (value_of (under_sign negative quantity))
  Ok (rows_next (close_row sense x u))

-- A sign stands before the right side's number.
abbrev pub after_side_sign : Bool → Sense → Spot → Symbol → Unfinished → Result Stage ModelFault
after_side_sign negative sense spot (number signed quantity) u = right_side negative sense spot quantity u
after_side_sign negative sense spot symbol u = Err (fault_at spot Word)

-- Behind the comparison: one sign, or the number.
abbrev pub after_comparison : Sense → Spot → Symbol → Unfinished → Result Stage ModelFault
after_comparison sense spot (sign negative) u = Ok (row_side_sign negative sense u)
after_comparison sense spot (number signed quantity) u = right_side false sense spot quantity u
after_comparison sense spot symbol u = Err (fault_at spot Word)
