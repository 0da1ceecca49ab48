-- One change of a model: when it is refused, and what it leaves. And the changes of a list, one after the other.
use Rattle.std.specs.Prelude.{ℕ, Bool, false, not, ◌&&◌, ◌||◌, List, [], ◌∷◌, length, map, bytes_eq, nat_lt, Result, Ok, Err, if◌then◌else◌}
use Rattle.std.specs.List.{list_all, list_any}
use Rattle.std.specs.Option.{option_map_or}
use Rattle.base_names.specs.declared.refusal.Refusal.{Refusal}
use Rattle.base_names.specs.declared.refusal.Refusal.TheVariants.{DUPLICATE, NAME, SIZE}
use Rattle.model_data.specs.Lawful.{term_count}
use Rattle.model_data.specs.Names.{is_name}
use Rattle.model_data.specs.declared.limits.TheConstants.{MAX_ROWS, MAX_TERMS, MAX_VARS}
use Rattle.model_data.specs.declared.model.Model.{Model}
use Rattle.model_core.specs.Effect.{changed}
use Rattle.model_core.specs.Named.{has_tag, is_var, knows_row, knows_tag, knows_var}
use Rattle.model_core.specs.declared.change.Change.{Change}
use Rattle.model_core.specs.declared.change.Change.TheVariants.{AddVar, AddConstr, ChgCoeff, SetLb, SetUb, SetObj, SetRhs, SetSense, SetKind, SetTag, DelVar, DelConstr}

-- A new name has a name's form, and every other one that the change speaks of is there.
abbrev pub has_names : Model → Change → Bool
has_names m (AddVar v) = is_name v.name
has_names m (AddConstr name sense rhs terms) = is_name name && list_all (λ t. knows_var t.name m) terms
has_names m (ChgCoeff row var x) = knows_row row m && knows_var var m
has_names m (SetLb name bound) = knows_var name m
has_names m (SetUb name bound) = knows_var name m
has_names m (SetObj name x) = knows_var name m
has_names m (SetRhs name x) = knows_row name m
has_names m (SetSense name sense) = knows_row name m
has_names m (SetKind name kind) = knows_var name m
has_names m (SetTag name tag) = knows_var name m
has_names m (DelVar name) = knows_var name m
has_names m (DelConstr name) = knows_row name m

-- a text stands twice
abbrev pub has_double : List (List ℕ) → Bool
has_double [] = false
has_double (text ∷ texts) = list_any (bytes_eq text) texts || has_double texts

-- A new name is taken among its kind, a term's name stands twice, or another variable has the tag.
abbrev pub has_duplicate : Model → Change → Bool
has_duplicate m (AddVar v) = knows_var v.name m || option_map_or (λ tag. knows_tag tag m) v.tag false
has_duplicate m (AddConstr name sense rhs terms) = knows_row name m || has_double (map (λ t. t.name) terms)
has_duplicate m (SetTag name tag) = list_any (λ v. has_tag tag v && not (is_var name v)) m.vars
has_duplicate m (ChgCoeff row var x) = false
has_duplicate m (SetLb name bound) = false
has_duplicate m (SetUb name bound) = false
has_duplicate m (SetObj name x) = false
has_duplicate m (SetRhs name x) = false
has_duplicate m (SetSense name sense) = false
has_duplicate m (SetKind name kind) = false
has_duplicate m (DelVar name) = false
has_duplicate m (DelConstr name) = false

-- a model past a limit on variables, rows or terms
abbrev pub is_too_large : Model → Bool
is_too_large m = nat_lt MAX_VARS (length m.vars) || nat_lt MAX_ROWS (length m.rows) || nat_lt MAX_TERMS (term_count m)

-- the model that a change leaves, or why it is refused, by what is said of its names and of the model
abbrev pub answer : (names_there duplicate : Bool) → Model → Result Model Refusal
answer names_there duplicate next =
    if not names_there then Err NAME
    else (if duplicate then Err DUPLICATE
    else (if is_too_large next then Err SIZE
    else Ok next))

abbrev pub one : Model → Change → Result Model Refusal
one m c = answer (has_names m c) (has_duplicate m c) (changed c m)

-- The model after a change. A refused one leaves it as it was.
abbrev pub after : Model → Change → Model
after m c = elim (one m c) [ Ok next ↦ next | Err _ ↦ m ]

-- the model after changes, one after the other
abbrev pub fold : Model → List Change → Model
fold m [] = m
fold m (c ∷ changes) = fold (after m c) changes
