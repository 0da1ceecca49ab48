-- What a change makes of a model, field by field.
use Rattle.std.specs.Prelude.{ℕ, suc, ◌-◌, Bool, not, List, [], ◌∷◌, ◌++◌, map, filter, ◌==◌, nat_lt, bytes_eq, Some, unsigned_abs, if◌then◌else◌}
use Rattle.frac128.specs.Fraction.{Fraction, zero_value}
use Rattle.model_data.specs.declared.model.Model.{Model}
use Rattle.model_data.specs.declared.model.Row.{Row}
use Rattle.model_data.specs.declared.model.Term.{Term}
use Rattle.model_data.specs.declared.model.Var.{Var}
use Rattle.model_core.specs.Named.{is_row, is_var, var_place}
use Rattle.model_core.specs.declared.change.Change.{Change}
use Rattle.model_core.specs.declared.change.Change.TheVariants.{AddVar, AddConstr, ChgCoeff, SetLb, SetUb, SetObj, SetRhs, SetSense, SetKind, SetTag, DelVar, DelConstr}
use Rattle.model_core.specs.declared.change.NamedTerm.{NamedTerm}

-- the variable of the name, changed
abbrev pub on_var : List ℕ → (Var → Var) → Model → Model
on_var name change m = record m { vars = map (λ v. if is_var name v then change v else v) m.vars }

-- the row of the name, changed
abbrev pub on_row : List ℕ → (Row → Row) → Model → Model
on_row name change m = record m { rows = map (λ r. if is_row name r then change r else r) m.rows }

abbrev pub is_zero : Fraction → Bool
is_zero x = unsigned_abs x.num == 0

-- a term of the variable at the place, none where the coefficient is 0
abbrev pub term_of : ℕ → Fraction → List Term
term_of place x = if is_zero x then [] else record { var = place; coef = x } ∷ []

-- the coefficient that the terms give to the variable of the name, 0 where none does
abbrev pub coefficient_of : List ℕ → List NamedTerm → Fraction
coefficient_of name [] = zero_value
coefficient_of name (t ∷ terms) = if bytes_eq name t.name then t.coef else coefficient_of name terms

-- the terms as those of the variables of the names, in the order of these, of which the first has the place
abbrev pub terms_from : ℕ → List (List ℕ) → List NamedTerm → List Term
terms_from place [] terms = []
terms_from place (name ∷ names) terms = term_of place (coefficient_of name terms) ++ terms_from (suc place) names terms

-- the terms with this coefficient of the variable at the place
abbrev pub with_coefficient : ℕ → Fraction → List Term → List Term
with_coefficient place x terms =
    filter (λ t. nat_lt t.var place) terms ++ term_of place x ++ filter (λ t. nat_lt place t.var) terms

-- a term, where the variables behind the place have moved one place to the front
abbrev pub moved : ℕ → Term → Term
moved place t = if nat_lt place t.var then record t { var = t.var - 1 } else t

-- the terms without the variable at the place
abbrev pub without_place : ℕ → List Term → List Term
without_place place terms = map (moved place) (filter (λ t. not (t.var == place)) terms)

abbrev pub in_row : (List Term → List Term) → Row → Row
in_row change r = record r { terms = change r.terms }

-- the model without the variable of the name and its terms
abbrev pub without_var : List ℕ → Model → Model
without_var name m = record m {
  vars = filter (λ v. not (is_var name v)) m.vars;
  rows = map (in_row (without_place (var_place name m))) m.rows;
}

abbrev pub changed : Change → Model → Model
changed (AddVar v) m = record m { vars = m.vars ++ v ∷ [] }
changed (AddConstr name sense rhs terms) m =
    record m { rows = m.rows ++ record { name = name; sense = sense; rhs = rhs; terms = terms_from 0 (map (λ v. v.name) m.vars) terms } ∷ [] }
changed (ChgCoeff row var x) m = on_row row (in_row (with_coefficient (var_place var m) x)) m
changed (SetLb name bound) m = on_var name (λ v. record v { lower = bound }) m
changed (SetUb name bound) m = on_var name (λ v. record v { upper = bound }) m
changed (SetObj name x) m = on_var name (λ v. record v { obj = x }) m
changed (SetRhs name x) m = on_row name (λ r. record r { rhs = x }) m
changed (SetSense name sense) m = on_row name (λ r. record r { sense = sense }) m
changed (SetKind name kind) m = on_var name (λ v. record v { kind = kind }) m
changed (SetTag name tag) m = on_var name (λ v. record v { tag = Some tag }) m
changed (DelVar name) m = without_var name m
changed (DelConstr name) m = record m { rows = filter (λ r. not (is_row name r)) m.rows }
