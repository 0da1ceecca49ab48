-- The objective's coefficient of a variable that a table finds, and of one that it doesn't.
use Rattle.std.proofs.Common.{◌≡◌, refl, sym, ◌∙◌, ap, subst, arith, ℕ, suc, ◌+◌, Bool, true, false, not, cond, ◌||◌, if◌then◌else◌, Some}
use Rattle.std.proofs.Common.{List, [], ◌∷◌, get_or, position, bytes_eq}
use Rattle.std.specs.List.{list_any}
use Rattle.frac128.specs.Fraction.{Fraction, zero_value}
use Rattle.model_data.specs.declared.model.Row.{Row}
use Rattle.model_data.specs.declared.model.Term.{Term}
use Rattle.model_data.specs.declared.model.Var.{Var}
use Rattle.lp_defs.specs.Draft.{objective_of_vars}
use Rattle.lp_parse.specs.Draft.{IsSound}
use Rattle.lp_parse.proofs.Known.{first_named, first_of_name, is_named, knows_var-table}

found_step : (b : Bool) (r : ℕ) (v : Var) (vars : List Var) (rest : Fraction) (d : Var) → (b ≡ false → (get_or vars r d).obj ≡ rest)
    → (get_or (v ∷ vars) (cond (not b) (1 + r) 0) d).obj ≡ (if b then v.obj else rest)
found_step true r v vars rest d h = refl
found_step false r v vars rest d h =
    let e : suc r ≡ 1 + r = omega arith in
    subst (λ (n : ℕ). (get_or (v ∷ vars) n d).obj ≡ rest) e (h refl)

found : (text : List ℕ) (d : Var) (vars : List Var) → list_any (is_named text) vars ≡ true
    → (get_or vars (first_named text vars) d).obj ≡ objective_of_vars text vars
found text d [] any = absurd cc
found text d (v ∷ vars) any =
    found_step (is_named text v) (first_named text vars) v vars (objective_of_vars text vars) d
    (λ e. found text d vars (sym (ap (λ b. b || list_any (is_named text) vars) e) ∙ any))

missing_step : (b any : Bool) (x rest : Fraction) → (b || any) ≡ false → (any ≡ false → rest ≡ zero_value) → (if b then x else rest) ≡ zero_value
missing_step true any x rest h k = absurd cc
missing_step false any x rest h k = k h

missing : (text : List ℕ) (vars : List Var) → list_any (is_named text) vars ≡ false → objective_of_vars text vars ≡ zero_value
missing text [] any = refl
missing text (v ∷ vars) any =
    missing_step (is_named text v) (list_any (is_named text) vars) v.obj (objective_of_vars text vars) any (missing text vars)

module _ {vars : List Var} {var_names : List (List ℕ)} {rows : List Row} {row_names : List (List ℕ)} {count : ℕ} {terms : List Term}
    (sound : IsSound vars var_names rows row_names count terms) (text : List ℕ) where
  pub objective_found : {place : ℕ} → Some place ≡ position (bytes_eq text) var_names → true ≡ list_any (bytes_eq text) var_names
      → {v : Var} → v ≡ get_or vars place v → v.obj ≡ objective_of_vars text vars
  objective_found {place} at known {v} read =
      ap (λ (w : Var). w.obj) read
      ∙ subst (λ (n : ℕ). (get_or vars n v).obj ≡ objective_of_vars text vars) (first_of_name sound text place (sym at))
      (found text v vars (sym (knows_var-table sound text) ∙ sym known))

  pub objective_missing : false ≡ list_any (bytes_eq text) var_names → zero_value ≡ objective_of_vars text vars
  objective_missing unknown = sym (missing text vars (sym (knows_var-table sound text) ∙ sym unknown))
