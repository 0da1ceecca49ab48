-- Changes of a model at hand.
use Rattle.std.proofs.Common.{◌≡◌, refl, codes, ℕ, List, [], ◌∷◌, Some, None, Ok, Err}
use Rattle.base_names.specs.declared.refusal.Refusal.TheVariants.{DUPLICATE, NAME}
use Rattle.frac128.specs.Fraction.{one_value, zero_value}
use Rattle.model_data.specs.declared.model.Direction.TheVariants.{Minimize}
use Rattle.model_data.specs.declared.model.Model.{Model}
use Rattle.model_data.specs.declared.model.Row.{Row}
use Rattle.model_data.specs.declared.model.Sense.TheVariants.{Less}
use Rattle.model_data.specs.declared.model.Term.{Term}
use Rattle.model_data.specs.declared.model.Var.{Var}
use Rattle.model_data.specs.declared.model.VarKind.TheVariants.{Continuous}
use Rattle.model_core.specs.Look.{coefficient_at}
use Rattle.model_core.specs.One.{after, fold, one}
use Rattle.model_core.specs.declared.change.Change.TheVariants.{ChgCoeff, DelConstr, DelVar, SetObj, SetTag}

abbrev var_of : List ℕ → Var
var_of name = record { name = name; lower = Some zero_value; upper = None; obj = zero_value; kind = Continuous; tag = None }

abbrev term : ℕ → Term
term place = record { var = place; coef = one_value }

abbrev row_of : List Term → Row
row_of terms = record { name = codes "c"; sense = Less; rhs = one_value; terms = terms }

abbrev model_of : List Var → List Row → Model
model_of vars rows = record { direction = Minimize; constant = zero_value; vars = vars; rows = rows }

-- variables x, y and z in a row
abbrev start : Model
start = model_of (var_of (codes "x") ∷ var_of (codes "y") ∷ var_of (codes "z") ∷ []) (row_of (term 0 ∷ term 1 ∷ term 2 ∷ []) ∷ [])

-- the variables behind the one that goes move one place to the front
deleted : one start (DelVar (codes "y")) ≡ Ok (model_of (var_of (codes "x") ∷ var_of (codes "z") ∷ []) (row_of (term 0 ∷ term 1 ∷ []) ∷ []))
deleted = refl

row_deleted : one start (DelConstr (codes "c")) ≡ Ok (model_of start.vars [])
row_deleted = refl

term_taken_away : one start (ChgCoeff (codes "c") (codes "y") zero_value) ≡ Ok (model_of start.vars (row_of (term 0 ∷ term 2 ∷ []) ∷ []))
term_taken_away = refl

-- a name that is missing decides before a tag that is taken
missing : one (after start (SetTag (codes "x") (codes "t"))) (SetTag (codes "w") (codes "t")) ≡ Err NAME
missing = refl

taken : one (after start (SetTag (codes "x") (codes "t"))) (SetTag (codes "y") (codes "t")) ≡ Err DUPLICATE
taken = refl

-- a variable may be given the tag that it has
own : one (after start (SetTag (codes "x") (codes "t"))) (SetTag (codes "x") (codes "t")) ≡ Ok (after start (SetTag (codes "x") (codes "t")))
own = refl

-- a refused change is none of a fold
folded : fold start (DelVar (codes "y") ∷ SetObj (codes "y") one_value ∷ []) ≡ fold start (DelVar (codes "y") ∷ [])
folded = refl

seen : coefficient_at (codes "c") (codes "z") (after start (DelVar (codes "y"))) ≡ Some one_value
seen = refl
