-- What is asked of the variables and the rows of a model whose text is to be read again.
use Rattle.std.proofs.Common.{ℕ, ◌≤◌, List, map, length}
use Rattle.std.specs.Prelude.{All, sum_by}
use Rattle.model_data.specs.Lawful.{AreDistinct, IsLawful, IsLawfulRow, IsLawfulVar}
use Rattle.model_data.specs.declared.limits.TheConstants.{MAX_ROWS, MAX_TERMS, MAX_VARS}
use Rattle.model_data.specs.declared.model.Model.{Model}
use Rattle.model_data.specs.declared.model.Row.{Row}
use Rattle.model_data.specs.declared.model.Var.{Var}
use Rattle.model_data.specs.Kept.{HasKeptNumbers, IsKeptRow, IsKeptVar}

pub record IsWritableVar (v : Var) : Type 0 where
  pub lawful : IsLawfulVar v
  pub kept : IsKeptVar v

pub record AreWritableVars (vars : List Var) : Type 0 where
  pub each : All IsWritableVar vars
  pub distinct : AreDistinct (map (λ v. v.name) vars)
  pub few : length vars ≤ MAX_VARS

-- a row of a model with so many variables
pub record IsWritableRow (vars : ℕ) (r : Row) : Type 0 where
  pub lawful : IsLawfulRow vars r
  pub kept : IsKeptRow r

pub record AreWritableRows (vars : ℕ) (rows : List Row) : Type 0 where
  pub each : All (IsWritableRow vars) rows
  pub distinct : AreDistinct (map (λ r. r.name) rows)
  pub few : length rows ≤ MAX_ROWS
  pub few_terms : sum_by (λ r. length r.terms) rows ≤ MAX_TERMS

pub writable_vars : (m : Model) → IsLawful m → HasKeptNumbers m → AreWritableVars m.vars
writable_vars m lawful kept = record {
  each = λ k d within. record { lawful = lawful.vars k d within; kept = kept.vars k d within };
  distinct = lawful.var_names;
  few = lawful.var_limit;
}

pub writable_rows : (m : Model) → IsLawful m → HasKeptNumbers m → AreWritableRows (length m.vars) m.rows
writable_rows m lawful kept = record {
  each = λ k d within. record { lawful = lawful.rows k d within; kept = kept.rows k d within };
  distinct = lawful.row_names;
  few = lawful.row_limit;
  few_terms = lawful.term_limit;
}
