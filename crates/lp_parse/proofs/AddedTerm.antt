-- A term that is added to a row step by step: the sum, the variable, the room, and the coefficient.
use Rattle.std.proofs.Common.{◌≡◌, refl, sym, ◌∙◌, ap, ap₂, arith, ℕ, ◌+◌, ◌==◌, nat_le, nat_lt, Bool, true, false, cond, ◌||◌, if◌then◌else◌}
use Rattle.std.proofs.Common.{List, [], ◌∷◌, ◌++◌, length, bytes_eq, Option, Some, None, option_and_then, Result, Ok, Err}
use Rattle.std.specs.List.{position_or_len}
use Rattle.std.proofs.lemmas.Bool.{cond_both, eqb-true}
use Rattle.std.proofs.lemmas.List.Folds.{position_or_len_push}
use Rattle.std.proofs.lemmas.Slice.Eq.{bytes_eq-Decides}
use Rattle.base_names.specs.declared.refusal.FaultWord.{FaultWord}
use Rattle.base_names.specs.declared.refusal.FaultWord.TheVariants.{Number as bad_number, Size}
use Rattle.frac128.specs.Checked.{◌>>=◌}
use Rattle.frac128.specs.Fraction.{Fraction}
use Rattle.model_data.specs.Lawful.{term_count}
use Rattle.model_data.specs.declared.limits.TheConstants.{MAX_TERMS, MAX_VARS}
use Rattle.model_data.specs.declared.model.Model.{Model}
use Rattle.model_data.specs.declared.model.Term.{Term}
use Rattle.model_data.specs.declared.model.Var.{Var}
use Rattle.lp_defs.specs.declared.fault.ModelFault.{ModelFault}
use Rattle.lp_defs.specs.Draft.{OpenRow, Unfinished, coefficient_in, knows_var, mention, new_var, row_sum, var_place}
use Rattle.lp_defs.specs.Draft.{with_coefficient, with_sum, with_term, within_terms}
use Rattle.lp_defs.specs.Objective.{Summand}
use Rattle.lp_defs.specs.Quantity.{added}
use Rattle.lp_defs.specs.Rows.{add_to_row}
use Rattle.lp_defs.specs.Symbols.{Spot, fault_at, or_fault}

told : {A : Type 0} (spot : Spot) (fault : FaultWord) (outcome : Option A) (a : A) → or_fault spot fault outcome ≡ Ok a → outcome ≡ Some a
told spot fault (Some b) a e = cc
told spot fault None a e = cc

place_pushed : (text : List ℕ) (vars : List Var) (v : Var) → bytes_eq text v.name ≡ true
    → position_or_len (λ v. bytes_eq text v.name) (vars ++ v ∷ []) ≡ position_or_len (λ v. bytes_eq text v.name) vars
place_pushed text vars v hit =
    let place = position_or_len (λ (v : Var). bytes_eq text v.name) vars in
    position_or_len_push (λ (v : Var). bytes_eq text v.name) vars v
    ∙ cond_both (place == length vars) (length vars + cond (bytes_eq text v.name) 0 1) place (λ n. n ≡ place)
    (λ e. ap (λ (b : Bool). length vars + cond b 0 1) hit ∙ omega (arith, eqb-true place (length vars) e)) (λ e. refl)

abbrev pushed : List ℕ → Model → Model
pushed text m = record m { vars = m.vars ++ new_var text ∷ [] }

-- the place of a variable that isn't there is the one that it gets
pub place_mentioned : (text : List ℕ) (m known : Model) → mention text m ≡ Some known → var_place text known ≡ var_place text m
place_mentioned text m known e = step (knows_var text m) (nat_lt (length m.vars) MAX_VARS) e where
  step : (there room : Bool) → (if (there || room) then Some (if there then m else pushed text m) else None) ≡ Some known
      → var_place text known ≡ var_place text m
  step true room e = let same : m ≡ known = cc in ap (var_place text) (sym same)
  step false true e =
      let same : pushed text m ≡ known = cc in
      ap (var_place text) (sym same) ∙ place_pushed text m.vars (new_var text) ((bytes_eq-Decides text text).1 refl)
  step false false e = absurd cc

module _ (s : Summand) (u : Unfinished) {var : ℕ} {so_far sum : Fraction} {known : Model} {row : OpenRow}
    (place : var ≡ var_place s.text u.model) (read : so_far ≡ coefficient_in var u.row.terms)
    (summed : or_fault s.number_spot bad_number (added so_far s.coefficient) ≡ Ok sum)
    (mentioned : or_fault s.name_spot Size (mention s.text u.model) ≡ Ok known)
    (title : row.title ≡ u.row.title) (terms : row.terms ≡ with_coefficient var sum u.row.terms) where
  sum_told : or_fault s.number_spot bad_number (row_sum s.text s.coefficient u) ≡ Ok sum
  sum_told =
      ap (λ (x : Fraction). or_fault s.number_spot bad_number (added x s.coefficient))
      (sym (read ∙ ap (λ (at : ℕ). coefficient_in at u.row.terms) place))
      ∙ summed

  variable_told : mention s.text u.model ≡ Some known
  variable_told = told s.name_spot Size (mention s.text u.model) known mentioned

  row_told : with_sum s.text sum u.row known ≡ record { model = known; row = row }
  row_told =
      ap (λ (at : ℕ). record { model = known; row = record { title = u.row.title; terms = with_coefficient at sum u.row.terms } })
      (place_mentioned s.text u.model known variable_told ∙ sym place)
      ∙ ap₂ (λ (t : List ℕ) (l : List Term). record { model = known; row = record { title = t; terms = l } }) (sym title) (sym terms)

  steps : {room : Bool} → nat_le (term_count known + length row.terms) MAX_TERMS ≡ room
      → add_to_row s u ≡ or_fault s.name_spot Size (if room then Some (record { model = known; row = row }) else None)
  steps room =
      ap (λ (r : Result Fraction ModelFault). r >>= λ x. or_fault s.name_spot Size (with_term s.text x u)) sum_told
      ∙ ap (λ (m : Option Model). or_fault s.name_spot Size (option_and_then (λ m. within_terms (with_sum s.text sum u.row m)) m)) variable_told
      ∙ ap (λ (v : Unfinished). or_fault s.name_spot Size (within_terms v)) row_told
      ∙ ap (λ (b : Bool). or_fault s.name_spot Size (if b then Some (record { model = known; row = row }) else None)) room

  pub term_told : nat_le (term_count known + length row.terms) MAX_TERMS ≡ true → add_to_row s u ≡ Ok (record { model = known; row = row })
  term_told room = steps room

  pub term_refused : nat_le (term_count known + length row.terms) MAX_TERMS ≡ false → add_to_row s u ≡ Err (fault_at s.name_spot Size)
  term_refused full = steps full
