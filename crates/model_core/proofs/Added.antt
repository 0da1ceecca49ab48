-- A model with one more variable, and its tables.
use Rattle.std.proofs.Common.{◌≡◌, refl, sym, ◌∙◌, ap, ap₂, arith, ℕ, ◌<◌, ◌≤◌, nat_lt, Bool, true, false, ◌||◌, List, [], ◌∷◌, ◌++◌, length, bytes_eq, Option, Some, None}
use Rattle.std.specs.List.{list_any}
use Rattle.std.specs.Option.{option_map_or}
use Rattle.std.proofs.lemmas.Bool.{lt-ltb}
use Rattle.std.proofs.lemmas.List.{length_push}
use Rattle.std.proofs.lemmas.List.Folds.{list_any-append}
use Rattle.model_data.specs.Lawful.{IsLawful, term_count}
use Rattle.model_data.specs.declared.limits.TheConstants.{MAX_ROWS, MAX_TERMS, MAX_VARS}
use Rattle.model_data.specs.declared.model.Model.{Model}
use Rattle.model_data.specs.declared.model.Var.{Var}
use Rattle.model_core.specs.Indexed.{IsIndexOf}
use Rattle.model_core.specs.Named.{has_tag, knows_tag}
use Rattle.model_core.specs.One.{has_duplicate, is_too_large}
use Rattle.model_core.specs.declared.change.Change.TheVariants.{AddVar}
use Rattle.model_core.specs.declared.tables.Tables.{Tables}
use Rattle.model_core.proofs.Judged.{within}
use Rattle.model_core.proofs.Known.{known_var}

abbrev pub with_var : Model → Var → Model
with_var m v = record m { vars = m.vars ++ v ∷ [] }

pub var_too_many : (m : Model) (v : Var) → MAX_VARS ≤ length m.vars → is_too_large (with_var m v) ≡ true
var_too_many m v full =
    let longer = length_push m.vars v in
    ap (λ b. b || nat_lt MAX_ROWS (length m.rows) || nat_lt MAX_TERMS (term_count m)) (lt-ltb MAX_VARS (length (m.vars ++ v ∷ [])) (omega (arith, full, longer)))

pub var_fits : (m : Model) (v : Var) → IsLawful m → length m.vars < MAX_VARS → is_too_large (with_var m v) ≡ false
var_fits m v lawful room =
    let longer = length_push m.vars v in
    within (with_var m v) (omega (arith, room, longer)) lawful.row_limit lawful.term_limit

module _ {tables : Tables} {m : Model} (index : IsIndexOf tables m) (v : Var) where
  tag_known : (o : Option (List ℕ)) → option_map_or (λ tag. knows_tag tag m) o false ≡ option_map_or (λ tag. list_any (bytes_eq tag) tables.tags.texts) o false
  tag_known (Some tag) = sym (index.tags tag)
  tag_known None = refl

  pub var_doubled : has_duplicate m (AddVar v)
      ≡ (list_any (bytes_eq v.name) tables.vars.texts || option_map_or (λ tag. list_any (bytes_eq tag) tables.tags.texts) v.tag false)
  var_doubled = ap₂ (λ a b. a || b) (known_var index v.name) (tag_known v.tag)

or_false : (a b : Bool) → (a || (b || false)) ≡ (a || b)
or_false true b = refl
or_false false true = refl
or_false false false = refl

pub tags_with : (m : Model) (v : Var) (tag : List ℕ) → knows_tag tag (with_var m v) ≡ (knows_tag tag m || has_tag tag v)
tags_with m v tag = list_any-append (has_tag tag) m.vars (v ∷ []) ∙ or_false (knows_tag tag m) (has_tag tag v)
