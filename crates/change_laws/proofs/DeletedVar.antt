-- What a deletion leaves of the coefficients of the other variables.
use Rattle.std.proofs.Common.{◌≡◌, ◌≢◌, refl, sym, ◌∙◌, ap, ap₂, subst, arith, ℕ, zero, suc, ◌+◌, ◌-◌, ◌<◌, ◌≤◌, ◌==◌, nat_lt, Bool, true, false, not, cond, ◌||◌, if◌then◌else◌}
use Rattle.std.proofs.Common.{List, [], ◌∷◌, map, filter, get_or, bytes_eq, Option, Some, None, option_map, Ok}
use Rattle.std.specs.List.{list_any, position_or_len}
use Rattle.std.proofs.lemmas.Bool.{eq-eqb, eqb-false, eqb-true, false_from_ne_true, false≢true, le-ltb, lt-ltb, ne_eqb}
use Rattle.std.proofs.lemmas.Slice.Eq.{bytes_eq-Decides}
use Rattle.frac128.specs.Fraction.{Fraction, zero_value}
use Rattle.model_data.specs.Lawful.{AreDistinct, IsLawful}
use Rattle.model_data.specs.declared.model.Model.{Model}
use Rattle.model_data.specs.declared.model.Row.{Row}
use Rattle.model_data.specs.declared.model.Term.{Term}
use Rattle.model_data.specs.declared.model.Var.{Var}
use Rattle.model_data.specs.declared.model.VarKind.TheVariants.{Continuous}
use Rattle.model_core.specs.Effect.{changed, in_row, moved, without_place}
use Rattle.model_core.specs.Look.{coefficient_at, coefficient_in, coefficient_of_row, find_row, row_of}
use Rattle.model_core.specs.Named.{is_row, is_var, knows_var, var_place}
use Rattle.model_core.specs.One.{has_duplicate, has_names, one}
use Rattle.model_core.specs.declared.change.Change.TheVariants.{DelVar}
use Rattle.model_core.proofs.ByName.{named_first, others, pairs_tail, unnamed-filter}
use Rattle.model_core.proofs.LawfulChange.{accepted}
use Rattle.model_core.proofs.Spots.{by_order}

mapped_step : (change : List Term → List Term) (b : Bool) (r : Row) (rest old : Option Row) → rest ≡ option_map (in_row change) old
    → (if b then Some (in_row change r) else rest) ≡ option_map (in_row change) (if b then Some r else old)
mapped_step change true r rest old h = refl
mapped_step change false r rest old h = h

found_mapped : (name : List ℕ) (change : List Term → List Term) (rows : List Row)
    → find_row name (map (in_row change) rows) ≡ option_map (in_row change) (find_row name rows)
found_mapped name change [] = refl
found_mapped name change (r ∷ rows) =
    mapped_step change (is_row name r) r (find_row name (map (in_row change) rows)) (find_row name rows) (found_mapped name change rows)

-- where a place stands once the one of a variable is gone
abbrev moved_place : ℕ → ℕ → ℕ
moved_place p q = if nat_lt p q then q - 1 else q

moved_step : (p q : ℕ) (b : Bool) → nat_lt p q ≡ b → moved_place p q ≡ (if b then q - 1 else q)
moved_step p q b e = ap (λ (b : Bool). if b then q - 1 else q) e

module _ (p : ℕ) where
  lower : (q : ℕ) → q ≤ p → moved_place p q ≡ q
  lower q le = by_order p q (nat_lt p q) refl (λ lt. absurd (omega (arith, le, lt))) (λ ge. moved_step p q false (le-ltb p q ge))

  higher : (q : ℕ) → p < q → moved_place p q + 1 ≡ q
  higher q lt = let e = moved_step p q true (lt-ltb p q lt) in omega (arith, e, lt)

  -- other places stay apart
  same_moved : (a b : ℕ) → (a ≡ p → ⊥) → (b ≡ p → ⊥) → moved_place p a ≡ moved_place p b → a ≡ b
  same_moved a b fa fb e =
      by_order p a (nat_lt p a) refl
      (λ la. by_order p b (nat_lt p b) refl
      (λ lb. let x = higher a la in let y = higher b lb in omega (arith, x, y, e))
      (λ gb. let x = higher a la in let y = lower b gb in absurd (fb (omega (arith, x, y, e, la, gb)))))
      (λ ga. by_order p b (nat_lt p b) refl
      (λ lb. let x = lower a ga in let y = higher b lb in absurd (fa (omega (arith, x, y, e, ga, lb))))
      (λ gb. let x = lower a ga in let y = lower b gb in omega (arith, x, y, e)))

  var_step : (t : Term) (b : Bool) → (if b then record t { var = t.var - 1 } else t).var ≡ (if b then t.var - 1 else t.var)
  var_step t true = refl
  var_step t false = refl

  coef_step : (t : Term) (b : Bool) → (if b then record t { var = t.var - 1 } else t).coef ≡ t.coef
  coef_step t true = refl
  coef_step t false = refl

  module _ (q : ℕ) (other : q ≡ p → ⊥) where
    same_test : (t : Term) → (t.var ≡ p → ⊥) → ((moved p t).var == moved_place p q) ≡ (t.var == q)
    same_test t apart = by_test (t.var == q) refl where
      by_test : (b : Bool) → (t.var == q) ≡ b → ((moved p t).var == moved_place p q) ≡ b
      by_test true e = eq-eqb (moved p t).var (moved_place p q) (var_step t (nat_lt p t.var) ∙ ap (moved_place p) (eqb-true t.var q e))
      by_test false e = ne_eqb (moved p t).var (moved_place p q)
          (λ same. eqb-false t.var q e (same_moved t.var q apart other (sym (var_step t (nat_lt p t.var)) ∙ same)))

    coefficient_step : (t : Term) (ts : List Term) (b : Bool) → (t.var == p) ≡ b
        → coefficient_in (moved_place p q) (map (moved p) (filter (λ u. not (u.var == p)) ts)) ≡ coefficient_in q ts
        → coefficient_in (moved_place p q) (map (moved p) (cond (not b) (t ∷ filter (λ u. not (u.var == p)) ts) (filter (λ u. not (u.var == p)) ts)))
        ≡ coefficient_in q (t ∷ ts)
    coefficient_step t ts true e rest =
        rest ∙ sym (ap (λ (b : Bool). if b then t.coef else coefficient_in q ts)
        (ne_eqb t.var q (λ same. other (sym same ∙ eqb-true t.var p e))))
    coefficient_step t ts false e rest =
        ap (λ (b : Bool). if b then (moved p t).coef else coefficient_in (moved_place p q) (map (moved p) (filter (λ u. not (u.var == p)) ts)))
        (same_test t (eqb-false t.var p e))
        ∙ ap₂ (λ (x y : Fraction). if t.var == q then x else y) (coef_step t (nat_lt p t.var)) rest

    coefficient_moved : (terms : List Term) → coefficient_in (moved_place p q) (without_place p terms) ≡ coefficient_in q terms
    coefficient_moved [] = refl
    coefficient_moved (t ∷ ts) = coefficient_step t ts (t.var == p) refl (coefficient_moved ts)

module _ (name var : List ℕ) (differ : bytes_eq name var ≡ false) where
  not_both : (v : Var) → is_var name v ≡ true → is_var var v ≡ false
  not_both v e = false_from_ne_true (is_var var v) (λ f.
      false≢true (sym differ ∙ (bytes_eq-Decides name var).1 ((bytes_eq-Decides name v.name).0 e ∙ sym ((bytes_eq-Decides var v.name).0 f))))

  known_step : (v : Var) (vs rest : List Var) (b : Bool) → is_var name v ≡ b → list_any (is_var var) rest ≡ list_any (is_var var) vs
      → list_any (is_var var) (cond (not b) (v ∷ rest) rest) ≡ (is_var var v || list_any (is_var var) vs)
  known_step v vs rest true e h = h ∙ sym (ap (λ b. b || list_any (is_var var) vs) (not_both v e))
  known_step v vs rest false e h = ap (λ b. is_var var v || b) h

  known_others : (vars : List Var) → list_any (is_var var) (filter (λ v. not (is_var name v)) vars) ≡ list_any (is_var var) vars
  known_others [] = refl
  known_others (v ∷ vs) = known_step v vs (filter (λ w. not (is_var name w)) vs) (is_var name v) refl (known_others vs)

  first : Bool → ℕ → ℕ
  first b r = cond (not b) (1 + r) 0

  place_step : (a b : Bool) (p q r : ℕ) → (a ≡ true → b ≡ false) → (a ≡ true → r ≡ q) → (a ≡ false → b ≡ false → r ≡ moved_place p q)
      → (if a then r else first b r) ≡ moved_place (first a p) (first b q)
  unfolding first
  place_step true true p q r one same rest = absurd (false≢true (sym (one refl)))
  place_step true false p q r one same rest =
      same refl ∙ (let e = higher 0 (1 + q) (omega arith) in omega (arith, e))
  place_step false true p q r one same rest = sym (lower (1 + p) 0 (omega arith))
  place_step false false p q r one same rest =
      by_order p q (nat_lt p q) refl
      (λ lt. let e = rest refl refl in let x = higher p q lt in let y = higher (1 + p) (1 + q) (omega (arith, lt)) in omega (arith, e, x, y))
      (λ ge. let e = rest refl refl in let x = lower p q ge in let y = lower (1 + p) (1 + q) (omega (arith, ge)) in omega (arith, e, x, y))

  cond_place : (a : Bool) (v : Var) (rest : List Var) → position_or_len (is_var var) (cond (not a) (v ∷ rest) rest)
      ≡ (if a then position_or_len (is_var var) rest else first (is_var var v) (position_or_len (is_var var) rest))
  unfolding first
  cond_place true v rest = refl
  cond_place false v rest = refl

  -- the place of another variable, where the first one is gone
  place_others : (vars : List Var) → AreDistinct (map (λ v. v.name) vars) → list_any (is_var var) vars ≡ true
      → position_or_len (is_var var) (filter (λ v. not (is_var name v)) vars)
      ≡ moved_place (position_or_len (is_var name) vars) (position_or_len (is_var var) vars)
  unfolding first
  place_others [] distinct known = absurd cc
  place_others (v ∷ vs) distinct known =
      cond_place (is_var name v) v (filter (λ w. not (is_var name w)) vs)
      ∙ place_step (is_var name v) (is_var var v) (position_or_len (is_var name) vs) (position_or_len (is_var var) vs)
      (position_or_len (is_var var) (filter (λ w. not (is_var name w)) vs))
      (not_both v)
      (λ e. ap (position_or_len (is_var var)) (unnamed-filter (λ (w : Var). w.name) name vs (others (λ (w : Var). w.name) name v vs e distinct)))
      (λ e f. place_others vs (pairs_tail (λ (x y : List ℕ). x ≢ y) v.name (map (λ w. w.name) vs) distinct)
      (sym (ap (λ b. b || list_any (is_var var) vs) f) ∙ known))

  no_var : Var
  no_var = record { name = []; lower = None; upper = None; obj = zero_value; kind = Continuous; tag = None }

  module _ (m : Model) (lawful : IsLawful m) (there : knows_var name m ≡ true) where
    gone : Model
    gone = changed (DelVar name) m

    apart : knows_var var m ≡ true → var_place var m ≡ var_place name m → ⊥
    apart known same =
        let own = named_first (λ (v : Var). v.name) name m.vars no_var there in
        let others_own = named_first (λ (v : Var). v.name) var m.vars no_var known in
        false≢true (sym (not_both (get_or m.vars (var_place name m) no_var) own)
        ∙ subst (λ (n : ℕ). is_var var (get_or m.vars n no_var) ≡ true) same others_own)

    by_known : (b : Bool) → knows_var var m ≡ b → (r : Row)
        → coefficient_of_row var gone (Some (in_row (without_place (var_place name m)) r)) ≡ coefficient_of_row var m (Some r)
    unfolding gone
    by_known true e r =
        ap (λ (b : Bool). if b then Some (coefficient_in (var_place var gone) (without_place (var_place name m) r.terms)) else None) (known_others m.vars ∙ e)
        ∙ ap (λ (x : Fraction). Some x)
        (ap (λ (n : ℕ). coefficient_in n (without_place (var_place name m) r.terms)) (place_others m.vars lawful.var_names e)
        ∙ coefficient_moved (var_place name m) (var_place var m) (apart e) r.terms)
        ∙ sym (ap (λ (b : Bool). if b then Some (coefficient_in (var_place var m) r.terms) else None) e)
    by_known false e r =
        ap (λ (b : Bool). if b then Some (coefficient_in (var_place var gone) (without_place (var_place name m) r.terms)) else None) (known_others m.vars ∙ e)
        ∙ sym (ap (λ (b : Bool). if b then Some (coefficient_in (var_place var m) r.terms) else None) e)

    by_row : (o : Option Row) → coefficient_of_row var gone (option_map (in_row (without_place (var_place name m))) o) ≡ coefficient_of_row var m o
    by_row None = refl
    by_row (Some r) = by_known (knows_var var m) refl r

    kept : (row : List ℕ) → coefficient_at row var gone ≡ coefficient_at row var m
    unfolding gone
    kept row = ap (coefficient_of_row var gone) (found_mapped row (without_place (var_place name m)) m.rows) ∙ by_row (row_of row m)

pub coefficients_kept : (m n : Model) (name row var : List ℕ) → IsLawful m → one m (DelVar name) ≡ Ok n → bytes_eq name var ≡ false
    → coefficient_at row var n ≡ coefficient_at row var m
unfolding gone
coefficients_kept m n name row var lawful e differ =
    let told = accepted (has_names m (DelVar name)) (has_duplicate m (DelVar name)) (changed (DelVar name) m) n e in
    ap (coefficient_at row var) (sym (told.3)) ∙ kept name var differ m lawful (told.0) row
