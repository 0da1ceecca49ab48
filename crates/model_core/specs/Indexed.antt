-- What the tables beside a model say of it.
use Rattle.std.specs.Prelude.{◌≡◌, ℕ, List, [], map, filter_map, bytes_eq}
use Rattle.std.specs.List.{list_any}
use Rattle.frac128.specs.Fraction.{zero_value}
use Rattle.model_data.specs.Kept.{HasKeptNumbers}
use Rattle.model_data.specs.Lawful.{AreDistinct, IsLawful, term_count}
use Rattle.model_data.specs.declared.model.Direction.TheVariants.{Minimize}
use Rattle.model_data.specs.declared.model.Model.{Model}
use Rattle.model_data.specs.declared.model.Var.{Var}
use Rattle.model_core.specs.Named.{knows_tag}
use Rattle.model_core.specs.declared.tables.Tables.{Tables}

pub record IsIndexOf (tables : Tables) (m : Model) : Type 0 where
  -- a name has its place
  pub vars : tables.vars.texts ≡ map (λ v. v.name) m.vars
  pub rows : tables.rows.texts ≡ map (λ r. r.name) m.rows
  -- the tags, in any order
  pub tags : (tag : List ℕ) → list_any (bytes_eq tag) tables.tags.texts ≡ knows_tag tag m
  pub terms : tables.terms ≡ term_count m

-- what holds of a model and of its tables between two changes
pub record IsSound (tables : Tables) (m : Model) : Type 0 where
  pub index : IsIndexOf tables m
  pub lawful : IsLawful m
  pub kept : HasKeptNumbers m

abbrev pub HasDistinctTags : List Var → Type 0
HasDistinctTags vars = AreDistinct (filter_map (λ v. v.tag) vars)

-- to be minimized, with nothing in it
abbrev pub empty_model : Model
empty_model = record { direction = Minimize; constant = zero_value; vars = []; rows = [] }
