-- Models whose numbers are as a program keeps them. A model in memory has no other ones.
use Rattle.std.specs.Prelude.{All, IfSome}
use Rattle.frac128.specs.Lowest.{IsKept}
use Rattle.model_data.specs.declared.model.Model.{Model}
use Rattle.model_data.specs.declared.model.Row.{Row}
use Rattle.model_data.specs.declared.model.Var.{Var}

-- each number of the variable is kept
pub record IsKeptVar (v : Var) : Type 0 where
  pub lower : IfSome v.lower IsKept
  pub upper : IfSome v.upper IsKept
  pub obj : IsKept v.obj

-- each number of the row is kept
pub record IsKeptRow (r : Row) : Type 0 where
  pub rhs : IsKept r.rhs
  pub terms : All (λ t. IsKept t.coef) r.terms

-- each number of the model is in lowest terms, with both parts below the limit in size
pub record HasKeptNumbers (m : Model) : Type 0 where
  pub constant : IsKept m.constant
  pub vars : All IsKeptVar m.vars
  pub rows : All IsKeptRow m.rows
