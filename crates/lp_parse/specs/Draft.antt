-- What holds of a draft's tables and counts.
use Rattle.std.specs.Prelude.{◌≡◌, ℕ, ◌+◌, ◌≤◌, List, length, map, bytes_eq, sum_by, if◌then◌else◌, ◌++◌, ◌∷◌, []}
use Rattle.std.specs.List.{list_any}
use Rattle.model_data.specs.Lawful.{AreDistinct}
use Rattle.model_data.specs.declared.limits.TheConstants.{MAX_TERMS, MAX_VARS}
use Rattle.model_data.specs.declared.model.Row.{Row}
use Rattle.model_data.specs.declared.model.Term.{Term}
use Rattle.model_data.specs.declared.model.Var.{Var}

-- the names, with one that is new or known
abbrev pub with_name : List (List ℕ) → List ℕ → List (List ℕ)
with_name names name = if list_any (bytes_eq name) names then names else names ++ name ∷ []

pub record IsSound (vars : List Var) (var_names : List (List ℕ)) (rows : List Row) (row_names : List (List ℕ)) (closed_terms : ℕ)
    (terms : List Term) : Type 0 where
  -- a variable's name has its place
  pub var_names_are : var_names ≡ map (λ v. v.name) vars
  pub distinct : AreDistinct var_names
  -- the names of the whole rows, in any order
  pub row_names_are : (text : List ℕ) → list_any (bytes_eq text) row_names ≡ list_any (λ r. bytes_eq text r.name) rows
  -- the terms of the whole rows
  pub counted : closed_terms ≡ sum_by (λ r. length r.terms) rows
  pub var_limit : length vars ≤ MAX_VARS
  pub term_limit : closed_terms + length terms ≤ MAX_TERMS
