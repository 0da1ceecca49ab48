-- Which models are lawful.
use Rattle.std.specs.Prelude.{◌≢◌, ℕ, ◌*◌, ◌<◌, ◌≤◌, List, length, map, filter_map, All, AllPairs, IfSome, sum_by, pos, unsigned_abs}
use Rattle.frac128.specs.Fraction.{Fraction, den}
use Rattle.model_data.specs.Names.{IsName, IsTag}
use Rattle.model_data.specs.declared.limits.TheConstants.{BOUND_SIZE, MAX_ROWS, MAX_TERMS, MAX_VARS}
use Rattle.model_data.specs.declared.model.Model.{Model}
use Rattle.model_data.specs.declared.model.Row.{Row}
use Rattle.model_data.specs.declared.model.Var.{Var}

-- a finite bound is below 10 ^ 20 in size
abbrev pub IsBelowBoundSize : Fraction → Type 0
IsBelowBoundSize x = unsigned_abs x.num < BOUND_SIZE * den x

-- no two of the texts are equal
abbrev pub AreDistinct : List (List ℕ) → Type 0
AreDistinct texts = AllPairs (λ x y. x ≢ y) texts

pub record IsLawfulVar (v : Var) : Type 0 where
  pub name : IsName v.name
  pub tag : IfSome v.tag IsTag
  pub lower : IfSome v.lower IsBelowBoundSize
  pub upper : IfSome v.upper IsBelowBoundSize

-- a row of a model with so many variables
pub record IsLawfulRow (vars : ℕ) (r : Row) : Type 0 where
  pub name : IsName r.name
  pub places : All (λ t. t.var < vars) r.terms
  pub rising : AllPairs (λ s t. s.var < t.var) r.terms
  pub not_zero : All (λ t. t.coef.num ≢ pos 0) r.terms

abbrev pub term_count : Model → ℕ
term_count m = sum_by (λ r. length r.terms) m.rows

-- A row and a variable may have the same name.
pub record IsLawful (m : Model) : Type 0 where
  pub vars : All IsLawfulVar m.vars
  pub rows : All (IsLawfulRow (length m.vars)) m.rows
  pub var_names : AreDistinct (map (λ v. v.name) m.vars)
  pub row_names : AreDistinct (map (λ r. r.name) m.rows)
  pub tags : AreDistinct (filter_map (λ v. v.tag) m.vars)
  pub var_limit : length m.vars ≤ MAX_VARS
  pub row_limit : length m.rows ≤ MAX_ROWS
  pub term_limit : term_count m ≤ MAX_TERMS
