-- What is found by name in a model.
use Rattle.std.proofs.Common.{◌≡◌, refl, sym, ◌∙◌, ap, ℕ, ◌<◌, if◌then◌else◌, List, [], ◌∷◌, get_or, length, true, false, position, bytes_eq, Option, Some, None}
use Rattle.std.specs.List.{list_any}
use Rattle.std.proofs.lemmas.Option.{slice_get-get_or}
use Rattle.model_data.specs.declared.model.Model.{Model}
use Rattle.model_data.specs.declared.model.Row.{Row}
use Rattle.model_data.specs.declared.model.Var.{Var}
use Rattle.model_core.specs.Indexed.{IsIndexOf}
use Rattle.model_core.specs.Look.{find_row, find_var, row_of, var_of}
use Rattle.model_core.specs.Named.{is_row, is_var}
use Rattle.model_core.specs.declared.tables.Tables.{Tables}
use Rattle.model_core.proofs.ByName.{first_of_name, found_at, not_found}
use Rattle.model_core.proofs.Known.{known_row, known_var, place_of_row, place_of_var, row_within, var_within}

find_var-first : (name : List ℕ) (vars : List Var) → find_var name vars ≡ first_of_name (λ (v : Var). v.name) name vars
find_var-first name [] = refl
find_var-first name (v ∷ vars) = ap (λ (rest : Option Var). if is_var name v then Some v else rest) (find_var-first name vars)

find_row-first : (name : List ℕ) (rows : List Row) → find_row name rows ≡ first_of_name (λ (r : Row). r.name) name rows
find_row-first name [] = refl
find_row-first name (r ∷ rows) = ap (λ (rest : Option Row). if is_row name r then Some r else rest) (find_row-first name rows)

module _ {tables : Tables} {m : Model} (index : IsIndexOf tables m) (name : List ℕ) where
  pub var_found : {place : ℕ} → Some place ≡ position (bytes_eq name) tables.vars.texts → true ≡ list_any (bytes_eq name) tables.vars.texts
      → place < length tables.vars.texts → (d : Var) → var_of name m ≡ Some (get_or m.vars place d)
  var_found {place} found known within d =
      find_var-first name m.vars
      ∙ found_at (λ (v : Var). v.name) name m.vars place (place_of_var index name ∙ sym found) (known_var index name ∙ sym known)
      ∙ slice_get-get_or m.vars place d (var_within index name within)

  pub var_missing : false ≡ list_any (bytes_eq name) tables.vars.texts → var_of name m ≡ None
  var_missing missing = find_var-first name m.vars ∙ not_found (λ (v : Var). v.name) name m.vars (known_var index name ∙ sym missing)

  pub row_found : {place : ℕ} → Some place ≡ position (bytes_eq name) tables.rows.texts → true ≡ list_any (bytes_eq name) tables.rows.texts
      → place < length tables.rows.texts → (d : Row) → row_of name m ≡ Some (get_or m.rows place d)
  row_found {place} found known within d =
      find_row-first name m.rows
      ∙ found_at (λ (r : Row). r.name) name m.rows place (place_of_row index name ∙ sym found) (known_row index name ∙ sym known)
      ∙ slice_get-get_or m.rows place d (row_within index name within)

  pub row_missing : false ≡ list_any (bytes_eq name) tables.rows.texts → row_of name m ≡ None
  row_missing missing = find_row-first name m.rows ∙ not_found (λ (r : Row). r.name) name m.rows (known_row index name ∙ sym missing)
