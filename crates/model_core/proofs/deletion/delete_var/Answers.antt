use Rattle.std.proofs.Common.{◌<◌, ◌≡◌, refl, sym, ◌∙◌, ap, ap₂, subst, arith, ℕ, ◌≤◌, List, length, map, true, false, Ok, bytes_eq, position, Some, get_or}
use Rattle.std.specs.List.{list_any, remove}
use Rattle.std.proofs.lemmas.List.{length-map}
use Rattle.std.proofs.lemmas.List.Edits.{length-remove}
use Rattle.model_data.specs.Lawful.{IsLawful}
use Rattle.model_data.specs.declared.limits.TheConstants.{MAX_ROWS}
use Rattle.model_data.specs.declared.model.Model.{Model}
use Rattle.model_data.specs.declared.model.Var.{Var}
use Rattle.model_core.specs.Effect.{in_row, without_place, without_var}
use Rattle.model_core.specs.Indexed.{IsIndexOf}
use Rattle.model_core.specs.One.{is_too_large}
use Rattle.model_core.specs.declared.tables.Tables.{Tables}
use Rattle.model_core.proofs.ByName.{place_is_found, removed_at}
use Rattle.model_core.proofs.Judged.{answer-name, answer-ok, within}
use Rattle.model_core.proofs.Known.{known_var, place_of_var, var_within}
use Rattle.model_core.proofs.Mapped.{map-remove}
use Rattle.model_core.proofs.Without.{fewer_terms, same_names}
use Rattle.model_core.proofs.Tags.{forgotten}
use Rattle.model_core.proofs.deletion.delete_var.Goals as goal

-- without the variable at a place, and without its terms
at_it : Model → (vars : List Var) → ℕ → Model
at_it m vars place = record m { vars = vars; rows = map (in_row (without_place place)) m.rows }

module _ {tables : Tables} {m : Model} (index : IsIndexOf tables m) (lawful : IsLawful m) (name : List ℕ) (place : ℕ)
    (found : Some place ≡ position (bytes_eq name) tables.vars.texts) (known : true ≡ list_any (bytes_eq name) tables.vars.texts) (inside : place < length m.vars) where
  without_it : at_it m (remove m.vars place) place ≡ without_var name m
  unfolding at_it
  without_it =
      ap₂ (λ (vars : List Var) (n : ℕ). record m { vars = vars; rows = map (in_row (without_place n)) m.rows })
      (removed_at (λ (v : Var). v.name) name m.vars place lawful.var_names (place_of_var index name ∙ sym found) (known_var index name ∙ sym known))
      (sym (place_is_found (λ (v : Var). v.name) name m.vars place (place_of_var index name ∙ sym found)))

  few : is_too_large (at_it m (remove m.vars place) place) ≡ false
  unfolding at_it
  few =
      let fewer = length-remove m.vars place inside in
      let vars_few = lawful.var_limit in
      let less = fewer_terms place m.rows in
      let terms_few = lawful.term_limit in
      within (record m { vars = remove m.vars place; rows = map (in_row (without_place place)) m.rows }) (omega (arith, fewer, vars_few))
      (subst (λ (n : ℕ). n ≤ MAX_ROWS) (sym (length-map m.rows (in_row (without_place place)))) lawful.row_limit)
      (omega (arith, less, terms_few))

pub returns-in_default-clause-refused : goal.returns-in_default-clause-refused
returns-in_default-clause-refused c =
    answer-name _ false (without_var c.args.name.now c.args.model.now) (known_var c.requires.index c.args.name.now ∙ sym c.in_default.ensures.found)

pub count_terms-tables-requires : goal.count_terms-tables-requires
count_terms-tables-requires c =
    let less = fewer_terms c.in-Some.place c.args.model.now.rows in
    let terms_few = c.requires.lawful.term_limit in
    rw c.remove_var.ensures (omega (arith, less, terms_few))

pub returns-clause-ok : goal.returns-clause-ok
unfolding at_it
returns-clause-ok c =
    let m = c.args.model.now in
    let inside : c.in-Some.place < length m.vars = var_within c.requires.index c.args.name.now c.in-Some.ensures.within in
    let is = without_it c.requires.index c.requires.lawful c.args.name.now c.in-Some.place c.in-Some.ensures.place c.in-Some.ensures.found inside in
    answer-ok _ false (without_var c.args.name.now m) (known_var c.requires.index c.args.name.now ∙ sym c.in-Some.ensures.found) refl
    (subst (λ (n : Model). is_too_large n ≡ false) is
    (few c.requires.index c.requires.lawful c.args.name.now c.in-Some.place c.in-Some.ensures.place c.in-Some.ensures.found inside))
    ∙ ap Ok (sym (c.remove_var.ensures ∙ is))

pub returns-clause-index : goal.returns-clause-index
returns-clause-index c =
    let m = c.args.model.now in
    let place = c.in-Some.place in
    let inside : place < length m.vars = var_within c.requires.index c.args.name.now c.in-Some.ensures.within in
    let counted = c.count_terms-tables.ensures in
    let shown = rw c.remove_var.ensures at counted in
    rw c.remove_var.ensures (record {
      vars = c.remove_at.ensures ∙ ap (λ (l : List (List ℕ)). remove l place) c.requires.index.vars ∙ sym (map-remove (λ (v : Var). v.name) m.vars place);
      rows = c.requires.index.rows ∙ sym (same_names (without_place place) m.rows);
      tags = forgotten c.requires.index c.requires.lawful place c.index-as_slice-place.result inside (c.index-as_slice-place.is ∙ ap (λ (vars : List Var). get_or vars place c.index-as_slice-place.result) c.as_slice.ensures) c.forget_tag.new.tags.texts
          c.forget_tag.ensures.gone c.forget_tag.ensures.others;
      terms = shown;
    })
