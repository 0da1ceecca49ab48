-- What the tables beside a model know of its names.
use Rattle.std.proofs.Common.{◌≡◌, sym, ◌∙◌, ap, subst, ℕ, ◌<◌, List, length, true, position, bytes_eq, Some}
use Rattle.std.specs.List.{list_any}
use Rattle.std.proofs.lemmas.List.{length-map}
use Rattle.model_data.specs.Lawful.{IsLawful}
use Rattle.model_data.specs.declared.model.Model.{Model}
use Rattle.model_data.specs.declared.model.Row.{Row}
use Rattle.model_data.specs.declared.model.Var.{Var}
use Rattle.model_core.specs.Effect.{on_row, on_var}
use Rattle.model_core.specs.Field.{at_place}
use Rattle.model_core.specs.Indexed.{IsIndexOf}
use Rattle.model_core.specs.Named.{is_row, is_var, knows_row, knows_var}
use Rattle.model_core.specs.declared.tables.Tables.{Tables}
use Rattle.model_core.proofs.ByName.{changed_at}
use Rattle.model_core.proofs.Mapped.{any-map, position-map}

module _ {tables : Tables} {m : Model} (index : IsIndexOf tables m) (name : List ℕ) where
  pub known_var : knows_var name m ≡ list_any (bytes_eq name) tables.vars.texts
  known_var = sym (ap (list_any (bytes_eq name)) index.vars ∙ any-map (λ (v : Var). v.name) (bytes_eq name) m.vars)

  pub known_row : knows_row name m ≡ list_any (bytes_eq name) tables.rows.texts
  known_row = sym (ap (list_any (bytes_eq name)) index.rows ∙ any-map (λ (r : Row). r.name) (bytes_eq name) m.rows)

  pub place_of_var : position (is_var name) m.vars ≡ position (bytes_eq name) tables.vars.texts
  place_of_var = sym (ap (position (bytes_eq name)) index.vars ∙ position-map (λ (v : Var). v.name) (bytes_eq name) m.vars)

  pub place_of_row : position (is_row name) m.rows ≡ position (bytes_eq name) tables.rows.texts
  place_of_row = sym (ap (position (bytes_eq name)) index.rows ∙ position-map (λ (r : Row). r.name) (bytes_eq name) m.rows)

  -- a change at the place of the name is the change by name
  pub var_written : IsLawful m → {place : ℕ} → Some place ≡ position (bytes_eq name) tables.vars.texts → true ≡ list_any (bytes_eq name) tables.vars.texts
      → (change : Var → Var) → record m { vars = at_place place change m.vars } ≡ on_var name change m
  var_written lawful {place} found known change =
      ap (λ (vars : List Var). record m { vars = vars })
      (changed_at (λ (v : Var). v.name) name change m.vars place lawful.var_names (place_of_var ∙ sym found) (known_var ∙ sym known))

  pub row_written : IsLawful m → {place : ℕ} → Some place ≡ position (bytes_eq name) tables.rows.texts → true ≡ list_any (bytes_eq name) tables.rows.texts
      → (change : Row → Row) → record m { rows = at_place place change m.rows } ≡ on_row name change m
  row_written lawful {place} found known change =
      ap (λ (rows : List Row). record m { rows = rows })
      (changed_at (λ (r : Row). r.name) name change m.rows place lawful.row_names (place_of_row ∙ sym found) (known_row ∙ sym known))

  -- a place in the table is one in the model
  pub var_within : {place : ℕ} → place < length tables.vars.texts → place < length m.vars
  var_within {place} h = subst (λ (n : ℕ). place < n) (ap length index.vars ∙ length-map m.vars (λ (v : Var). v.name)) h

  pub row_within : {place : ℕ} → place < length tables.rows.texts → place < length m.rows
  row_within {place} h = subst (λ (n : ℕ). place < n) (ap length index.rows ∙ length-map m.rows (λ (r : Row). r.name)) h
