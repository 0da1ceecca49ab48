-- What the tables of a draft say of its model.
use Rattle.std.proofs.Common.{◌≡◌, refl, sym, ◌∙◌, ap, subst, ℕ, ◌≤◌, Bool, true, false, not, ◌||◌, if◌then◌else◌, Some, None}
use Rattle.std.proofs.Common.{List, [], ◌∷◌, length, map, set, get_or, position, bytes_eq, nat_lt}
use Rattle.std.specs.Prelude.{string_bytes}
use Rattle.std.specs.List.{list_any, prefix_len}
use Rattle.std.proofs.Math.Seq.{map-set_same}
use Rattle.std.proofs.lemmas.List.{length-set}
use Rattle.model_data.specs.declared.limits.TheConstants.{MAX_VARS}
use Rattle.model_data.specs.declared.model.Row.{Row}
use Rattle.model_data.specs.declared.model.Term.{Term}
use Rattle.model_data.specs.declared.model.Var.{Var}
use Rattle.lp_defs.specs.Draft.{Unfinished, knows_row, knows_var}
use Rattle.lp_parse.specs.declared.draft.Draft.TheInside.{Inside}
use Rattle.lp_parse.specs.Draft.{IsSound}
use Rattle.lp_parse.proofs.Tables.{any-map, position-map}

-- a variable of the name, the place of the first one, and the variables with it changed
abbrev pub is_named : List ℕ → Var → Bool
is_named text v = bytes_eq text v.name

abbrev pub first_named : List ℕ → List Var → ℕ
first_named text vars = prefix_len (λ v. not (is_named text v)) vars

abbrev pub with_named : List ℕ → (Var → Var) → List Var → List Var
with_named text change vars = map (λ v. if is_named text v then change v else v) vars

from_some : (b : Bool) (n i : ℕ) → (if b then Some n else None) ≡ Some i → n ≡ i
from_some true n i e = cc
from_some false n i e = absurd cc

module _ {vars : List Var} {var_names : List (List ℕ)} {rows : List Row} {row_names : List (List ℕ)} {count : ℕ} {terms : List Term}
    (sound : IsSound vars var_names rows row_names count terms) where
  pub knows_var-table : (text : List ℕ) → list_any (bytes_eq text) var_names ≡ list_any (is_named text) vars
  knows_var-table text = ap (list_any (bytes_eq text)) sound.var_names_are ∙ any-map (λ v. v.name) (bytes_eq text) vars

  -- the place that the table tells is that of the variable
  pub first_of_name : (text : List ℕ) (place : ℕ) → position (bytes_eq text) var_names ≡ Some place → first_named text vars ≡ place
  first_of_name text place found =
      from_some (nat_lt (first_named text vars) (length vars)) (first_named text vars) place
      (sym (position-map (λ (v : Var). v.name) (bytes_eq text) vars) ∙ ap (position (bytes_eq text)) (sym sound.var_names_are) ∙ found)

  -- a variable that is changed keeps its name
  pub sound_set : (place : ℕ) (w d : Var) → w.name ≡ (get_or vars place d).name → IsSound (set vars place w) var_names rows row_names count terms
  sound_set place w d same = record {
    var_names_are = sound.var_names_are ∙ sym (map-set_same (λ v. v.name) vars place w d same);
    distinct = sound.distinct;
    row_names_are = sound.row_names_are;
    counted = sound.counted;
    var_limit = subst (λ n. n ≤ MAX_VARS) (sym (length-set vars place w)) sound.var_limit;
    term_limit = sound.term_limit;
  }

-- a variable that isn't there can't be changed
unchanged_step : (b any : Bool) (v w : Var) (more rest : List Var) → (b || any) ≡ false → (any ≡ false → rest ≡ more)
    → ((if b then w else v) ∷ rest) ≡ v ∷ more
unchanged_step true any v w more rest h k = absurd cc
unchanged_step false any v w more rest h k = ap (λ r. v ∷ r) (k h)

pub unchanged : (text : List ℕ) (change : Var → Var) (vars : List Var) → list_any (is_named text) vars ≡ false → with_named text change vars ≡ vars
unchanged text change [] h = refl
unchanged text change (v ∷ vars) h =
    unchanged_step (is_named text v) (list_any (is_named text) vars) v (change v) vars (with_named text change vars) h (unchanged text change vars)

-- what the fields of a draft show
abbrev pub shown_of : Inside → Unfinished
shown_of draft = record {
  model = record { direction = draft.direction; constant = draft.constant; vars = draft.vars.items; rows = draft.rows.items };
  row = record { title = string_bytes draft.title; terms = draft.terms };
}

-- what is shown knows the names of the tables
module _ (draft : Inside) (sound : IsSound draft.vars.items draft.var_names draft.rows.items draft.row_names draft.closed_terms draft.terms)
    {u : Unfinished} (shows : shown_of draft ≡ u) (text : List ℕ) where
  pub knows_var_shown : knows_var text u.model ≡ list_any (bytes_eq text) draft.var_names
  knows_var_shown = sym (knows_var-table sound text ∙ ap (λ (u : Unfinished). knows_var text u.model) shows)

  pub knows_row_shown : knows_row text u.model ≡ list_any (bytes_eq text) draft.row_names
  knows_row_shown = sym (sound.row_names_are text ∙ ap (λ (u : Unfinished). knows_row text u.model) shows)
