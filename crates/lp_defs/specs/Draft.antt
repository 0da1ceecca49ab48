-- The model that a part of a text has told so far, and how a mention, a term or a row adds to it.
use Rattle.std.specs.Prelude.{ℕ, ◌+◌, Bool, ◌||◌, List, [], ◌∷◌, ◌++◌, length, map, ◌==◌, nat_le, nat_lt, codes, decimal, bytes_eq, Option, Some, None, option_map, option_and_then, unsigned_abs, if◌then◌else◌}
use Rattle.std.specs.List.{list_any, position_or_len}
use Rattle.frac128.specs.Fraction.{Fraction, zero_value}
use Rattle.model_data.specs.Lawful.{term_count}
use Rattle.model_data.specs.declared.limits.TheConstants.{MAX_ROWS, MAX_TERMS, MAX_VARS}
use Rattle.model_data.specs.declared.model.Direction.{Direction}
use Rattle.model_data.specs.declared.model.Model.{Model}
use Rattle.model_data.specs.declared.model.Sense.{Sense}
use Rattle.model_data.specs.declared.model.Term.{Term}
use Rattle.model_data.specs.declared.model.Var.{Var}
use Rattle.model_data.specs.declared.model.VarKind.{VarKind}
use Rattle.model_data.specs.declared.model.VarKind.TheVariants.{Continuous}
use Rattle.lp_defs.specs.Quantity.{added}

-- nothing but which value of the objective is the best
abbrev pub blank : Direction → Model
blank direction = record { direction = direction; constant = zero_value; vars = []; rows = [] }

-- a variable of which only the name is told: at least 0, with no term in the objective
abbrev pub new_var : List ℕ → Var
new_var text = record { name = text; lower = Some zero_value; upper = None; obj = zero_value; kind = Continuous; tag = None }

abbrev pub knows_var : List ℕ → Model → Bool
knows_var text m = list_any (λ v. bytes_eq text v.name) m.vars

-- the place of a variable in the order of first mention
abbrev pub var_place : List ℕ → Model → ℕ
var_place text m = position_or_len (λ v. bytes_eq text v.name) m.vars

abbrev pub with_mention : List ℕ → Model → Model
with_mention text m = if knows_var text m then m else record m { vars = m.vars ++ (new_var text ∷ []) }

-- the model with a variable of the name, where it is within the limit
abbrev pub mention : List ℕ → Model → Option Model
mention text m = if (knows_var text m || nat_lt (length m.vars) MAX_VARS) then Some (with_mention text m) else None

-- the variable of the name, changed
abbrev pub change_var : List ℕ → (Var → Var) → Model → Model
change_var text change m = record m { vars = map (λ v. if bytes_eq text v.name then change v else v) m.vars }

-- with no bounds
abbrev pub freed : Var → Var
freed v = record v { lower = None; upper = None }

abbrev pub with_kind : VarKind → Var → Var
with_kind kind v = record v { kind = kind }

-- the objective's coefficient of the variable, 0 where there is none
abbrev pub objective_of_vars : List ℕ → List Var → Fraction
objective_of_vars text [] = zero_value
objective_of_vars text (v ∷ vars) = if bytes_eq text v.name then v.obj else objective_of_vars text vars

-- The coefficients of one name in the objective are added.
abbrev pub objective_sum : List ℕ → Fraction → Model → Option Fraction
objective_sum text x m = added (objective_of_vars text m.vars) x

abbrev pub with_objective : List ℕ → Fraction → Model → Option Model
with_objective text sum m = option_map (change_var text (λ v. record v { obj = sum })) (mention text m)

-- the constant, with a further number
abbrev pub with_constant : Fraction → Model → Option Model
with_constant x m = option_map (λ sum. record m { constant = sum }) (added m.constant x)

-- a row whose name is told, and its terms so far
pub record OpenRow : Type 0 where
  pub title : List ℕ
  pub terms : List Term

-- the name of a row without a label: its place among all rows
abbrev pub default_title : Model → List ℕ
default_title m = codes "R" ++ decimal (length m.rows)

abbrev pub knows_row : List ℕ → Model → Bool
knows_row text m = list_any (λ r. bytes_eq text r.name) m.rows

abbrev pub has_room_for_row : Model → Bool
has_room_for_row m = nat_lt (length m.rows) MAX_ROWS

-- the coefficient of the variable at the place, 0 where it has no term
abbrev pub coefficient_in : ℕ → List Term → Fraction
coefficient_in place [] = zero_value
coefficient_in place (t ∷ terms) = if t.var == place then t.coef else coefficient_in place terms

-- a term in front of others, none where its coefficient is 0
abbrev pub before_terms : ℕ → Fraction → List Term → List Term
before_terms place x terms = if unsigned_abs x.num == 0 then terms else record { var = place; coef = x } ∷ terms

-- terms that rise by variable, with this coefficient of the variable at the place
abbrev pub with_coefficient : ℕ → Fraction → List Term → List Term
with_coefficient place x [] = before_terms place x []
with_coefficient place x (t ∷ terms) =
    if nat_lt t.var place then t ∷ with_coefficient place x terms
    else (if t.var == place then before_terms place x terms
    else before_terms place x (t ∷ terms))

-- a model with a row that isn't whole
pub record Unfinished : Type 0 where
  pub model : Model
  pub row : OpenRow

-- The coefficients of one name in a row are added.
abbrev pub row_sum : List ℕ → Fraction → Unfinished → Option Fraction
row_sum text x u = added (coefficient_in (var_place text u.model) u.row.terms) x

abbrev pub with_sum : List ℕ → Fraction → OpenRow → Model → Unfinished
with_sum text sum row m = record { model = m; row = record { title = row.title; terms = with_coefficient (var_place text m) sum row.terms } }

-- all terms, those of the rows before counted too, are within the limit
abbrev pub within_terms : Unfinished → Option Unfinished
within_terms u = if nat_le (term_count u.model + length u.row.terms) MAX_TERMS then Some u else None

abbrev pub with_term : List ℕ → Fraction → Unfinished → Option Unfinished
with_term text sum u = option_and_then (λ known. within_terms (with_sum text sum u.row known)) (mention text u.model)

-- nothing is told of the row but its name
abbrev pub new_row : List ℕ → Model → Unfinished
new_row text m = record { model = m; row = record { title = text; terms = [] } }

-- the model with the row, which is whole now
abbrev pub close_row : Sense → Fraction → Unfinished → Model
close_row sense x u =
    record u.model { rows = u.model.rows ++ (record { name = u.row.title; sense = sense; rhs = x; terms = u.row.terms } ∷ []) }
