-- A variable that a table finds is the only one of its name, so a change of it is the change by name.
use Rattle.std.proofs.Common.{◌≡◌, ◌≢◌, refl, sym, ◌∙◌, ap, subst, arith, ℕ, suc, ◌+◌, Bool, true, false, not, cond, ◌||◌, if◌then◌else◌, Some}
use Rattle.std.proofs.Common.{List, [], ◌∷◌, map, set, get_or, position, bytes_eq}
use Rattle.std.specs.List.{list_any}
use Rattle.std.specs.Vec.{with_item}
use Rattle.std.proofs.lemmas.Bool.{false_from_ne_true}
use Rattle.std.proofs.lemmas.List.Folds.{list_any_none}
use Rattle.std.proofs.lemmas.Slice.Eq.{bytes_eq-Decides}
use Rattle.model_data.specs.Lawful.{AreDistinct}
use Rattle.model_data.specs.declared.model.Row.{Row}
use Rattle.model_data.specs.declared.model.Term.{Term}
use Rattle.model_data.specs.declared.model.Var.{Var}
use Rattle.lp_defs.specs.Draft.{Unfinished, change_var}
use Rattle.lp_parse.specs.declared.draft.Draft.TheInside.{Inside}
use Rattle.lp_parse.specs.Draft.{IsSound}
use Rattle.lp_parse.proofs.Known.{first_named, first_of_name, is_named, knows_var-table, shown_of, unchanged, with_named}
use Rattle.lp_parse.proofs.Pairs.{AllPairs-head, AllPairs-tail}
use Rattle.lp_parse.proofs.Tables.{any-map}

-- no further variable has the name of the first one
others : (text : List ℕ) (v : Var) (vars : List Var) → is_named text v ≡ true → AreDistinct (map (λ v. v.name) (v ∷ vars))
    → list_any (is_named text) vars ≡ false
others text v vars named distinct =
    let names = map (λ (w : Var). w.name) vars in
    let apart = AllPairs-head (λ (x y : List ℕ). x ≢ y) v.name names distinct in
    sym (any-map (λ w. w.name) (bytes_eq text) vars)
    ∙ list_any_none (bytes_eq text) names (λ k d within. false_from_ne_true (bytes_eq text (get_or names k d)) (λ e.
    apart k d within (sym ((bytes_eq-Decides text v.name).0 named) ∙ (bytes_eq-Decides text (get_or names k d)).0 e)))

changed_step : (b : Bool) (r : ℕ) (v : Var) (vars : List Var) (change : Var → Var) (rest : List Var) (d : Var)
    → (b ≡ true → rest ≡ vars) → (b ≡ false → set vars r (change (get_or vars r d)) ≡ rest)
    → set (v ∷ vars) (cond (not b) (1 + r) 0) (change (get_or (v ∷ vars) (cond (not b) (1 + r) 0) d)) ≡ (if b then change v else v) ∷ rest
changed_step true r v vars change rest d h k = ap (λ l. change v ∷ l) (sym (h refl))
changed_step false r v vars change rest d h k =
    let e : suc r ≡ 1 + r = omega arith in
    subst (λ (n : ℕ). set (v ∷ vars) n (change (get_or (v ∷ vars) n d)) ≡ v ∷ rest) e (ap (λ l. v ∷ l) (k refl))

changed : (text : List ℕ) (change : Var → Var) (d : Var) (vars : List Var) → AreDistinct (map (λ v. v.name) vars) → list_any (is_named text) vars ≡ true
    → set vars (first_named text vars) (change (get_or vars (first_named text vars) d)) ≡ with_named text change vars
changed text change d [] distinct any = absurd cc
changed text change d (v ∷ vars) distinct any =
    changed_step (is_named text v) (first_named text vars) v vars change (with_named text change vars) d
    (λ e. unchanged text change vars (others text v vars e distinct))
    (λ e. changed text change d vars (AllPairs-tail (λ (x y : List ℕ). x ≢ y) v.name (map (λ w. w.name) vars) distinct)
    (sym (ap (λ b. b || list_any (is_named text) vars) e) ∙ any))

module _ {vars : List Var} {var_names : List (List ℕ)} {rows : List Row} {row_names : List (List ℕ)} {count : ℕ} {terms : List Term}
    (sound : IsSound vars var_names rows row_names count terms) where
  changed_at : (text : List ℕ) (change : Var → Var) (place : ℕ) (d : Var) → position (bytes_eq text) var_names ≡ Some place
      → list_any (bytes_eq text) var_names ≡ true → set vars place (change (get_or vars place d)) ≡ with_named text change vars
  changed_at text change place d found known =
      subst (λ (n : ℕ). set vars n (change (get_or vars n d)) ≡ with_named text change vars) (first_of_name sound text place found)
      (changed text change d vars (subst AreDistinct sound.var_names_are sound.distinct) (sym (knows_var-table sound text) ∙ known))

abbrev with_vars : Unfinished → List Var → Unfinished
with_vars u vars = record u { model = record u.model { vars = vars } }

module _ (draft : Inside) (sound : IsSound draft.vars.items draft.var_names draft.rows.items draft.row_names draft.closed_terms draft.terms)
    {u : Unfinished} (shows : shown_of draft ≡ u) (text : List ℕ) (change : Var → Var) where
  -- a variable that is found and written is changed by name
  pub written : {place : ℕ} → Some place ≡ position (bytes_eq text) draft.var_names → true ≡ list_any (bytes_eq text) draft.var_names
      → {v w : Var} → v ≡ get_or draft.vars.items place v → w ≡ change v
      → shown_of (record draft { vars = with_item draft.vars place w }) ≡ record u { model = change_var text change u.model }
  written {place} found known {v} {w} read new =
      ap (with_vars (shown_of draft)) (ap (set draft.vars.items place) (new ∙ ap change read) ∙ changed_at sound text change place v (sym found) (sym known))
      ∙ ap (λ (u : Unfinished). with_vars u (with_named text change u.model.vars)) shows

  -- nothing is changed where no variable has the name
  pub kept : false ≡ list_any (bytes_eq text) draft.var_names → u ≡ record u { model = change_var text change u.model }
  kept missing =
      sym shows
      ∙ ap (with_vars (shown_of draft)) (sym (unchanged text change draft.vars.items (sym (knows_var-table sound text) ∙ sym missing)))
      ∙ ap (λ (u : Unfinished). with_vars u (with_named text change u.model.vars)) shows
