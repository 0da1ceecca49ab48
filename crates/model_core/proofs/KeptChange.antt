-- A change keeps the numbers of a model in lowest terms.
use Rattle.std.proofs.Common.{◌≡◌, refl, sym, ◌∙◌, ap, subst, ℕ, suc, ◌==◌, nat_lt, Bool, true, false, not, if◌then◌else◌, ◌-◌, Some, List, [], ◌∷◌, map, filter, bytes_eq, Result, Ok, Err, OnOk, OnErr, All}
use Rattle.std.proofs.lemmas.List.Elements.{All-nil}
use Rattle.base_names.specs.declared.refusal.Refusal.{Refusal}
use Rattle.frac128.specs.Lowest.{IsKept}
use Rattle.model_data.specs.Kept.{HasKeptNumbers, IsKeptRow, IsKeptVar}
use Rattle.model_data.specs.declared.model.Model.{Model}
use Rattle.model_data.specs.declared.model.Row.{Row}
use Rattle.model_data.specs.declared.model.Term.{Term}
use Rattle.model_data.specs.declared.model.Var.{Var}
use Rattle.model_core.specs.Asked.{HasKeptNumbersOf}
use Rattle.model_core.specs.Effect.{changed, coefficient_of, in_row, is_zero, moved, on_row, on_var, term_of, terms_from, with_coefficient, without_place}
use Rattle.model_core.specs.Named.{is_row, is_var, var_place}
use Rattle.model_core.specs.One.{has_duplicate, has_names, one}
use Rattle.model_core.specs.declared.change.Change.{Change}
use Rattle.model_core.specs.declared.change.Change.TheVariants.{AddVar, AddConstr, ChgCoeff, SetLb, SetUb, SetObj, SetRhs, SetSense, SetKind, SetTag, DelVar, DelConstr}
use Rattle.model_core.specs.declared.change.NamedTerm.{NamedTerm}
use Rattle.model_core.proofs.LawfulChange.{accepted}
use Rattle.model_core.proofs.LawfulParts.{all_append, all_changed, all_filter, all_head, all_mapped, all_push, all_tail}
use Rattle.model_core.proofs.LawfulTerms.{set_all, term_all}

-- each of the terms in order has a coefficient that is given, and so a kept one
kept_from : (k : ℕ) (names : List (List ℕ)) (terms : List NamedTerm) → ((name : List ℕ) → is_zero (coefficient_of name terms) ≡ false → IsKept (coefficient_of name terms))
    → All (λ (t : Term). IsKept t.coef) (terms_from k names terms)
kept_from k [] terms h = All-nil (λ (t : Term). IsKept t.coef)
kept_from k (name ∷ names) terms h =
    all_append (λ (t : Term). IsKept t.coef) (term_of k (coefficient_of name terms)) (terms_from (suc k) names terms)
    (term_all k (coefficient_of name terms) (λ t. IsKept t.coef) (λ e. h name e)) (kept_from (suc k) names terms h)

given_by_name : (name : List ℕ) (t : NamedTerm) (terms : List NamedTerm) (b : Bool) → bytes_eq name t.name ≡ b → IsKept t.coef
    → (is_zero (coefficient_of name terms) ≡ false → IsKept (coefficient_of name terms)) → is_zero (coefficient_of name (t ∷ terms)) ≡ false
    → IsKept (coefficient_of name (t ∷ terms))
given_by_name name t terms true same own rest e = subst IsKept (sym (ap (λ (b : Bool). if b then t.coef else coefficient_of name terms) same)) own
given_by_name name t terms false differ own rest e =
    let here : coefficient_of name (t ∷ terms) ≡ coefficient_of name terms = ap (λ (b : Bool). if b then t.coef else coefficient_of name terms) differ in
    subst IsKept (sym here) (rest (ap is_zero (sym here) ∙ e))

given : (name : List ℕ) (terms : List NamedTerm) → All (λ (t : NamedTerm). IsKept t.coef) terms → is_zero (coefficient_of name terms) ≡ false → IsKept (coefficient_of name terms)
given name [] h e = absurd cc
given name (t ∷ terms) h e =
    given_by_name name t terms (bytes_eq name t.name) refl (all_head (λ (u : NamedTerm). IsKept u.coef) t terms h)
    (given name terms (all_tail (λ (u : NamedTerm). IsKept u.coef) t terms h)) e

coef_step : (place : ℕ) (b : Bool) (t : Term) → (if b then record t { var = t.var - 1 } else t).coef ≡ t.coef
coef_step place true t = refl
coef_step place false t = refl

module _ (m : Model) (h : HasKeptNumbers m) where
  var_kept : (name : List ℕ) (change : Var → Var) → ((v : Var) → IsKeptVar v → IsKeptVar (change v)) → HasKeptNumbers (on_var name change m)
  var_kept name change keeps = record { constant = h.constant; vars = all_changed IsKeptVar (is_var name) change m.vars h.vars keeps; rows = h.rows }

  row_kept : (name : List ℕ) (change : Row → Row) → ((r : Row) → IsKeptRow r → IsKeptRow (change r)) → HasKeptNumbers (on_row name change m)
  row_kept name change keeps = record { constant = h.constant; vars = h.vars; rows = all_changed IsKeptRow (is_row name) change m.rows h.rows keeps }

  kept_changed : (c : Change) → HasKeptNumbersOf c → HasKeptNumbers (changed c m)
  kept_changed (AddVar v) k = record { constant = h.constant; vars = all_push IsKeptVar m.vars v h.vars k; rows = h.rows }
  kept_changed (AddConstr name sense rhs terms) k =
      let names = map (λ (v : Var). v.name) m.vars in
      record {
        constant = h.constant;
        vars = h.vars;
        rows = all_push IsKeptRow m.rows (record { name = name; sense = sense; rhs = rhs; terms = terms_from 0 names terms }) h.rows
            (record { rhs = k.0; terms = kept_from 0 names terms (λ n e. given n terms (k.1) e) });
      }
  kept_changed (ChgCoeff row var x) k =
      row_kept row (in_row (with_coefficient (var_place var m) x))
      (λ r i. record { rhs = i.rhs; terms = set_all (var_place var m) x (λ t. IsKept t.coef) r.terms i.terms (λ e. k) })
  kept_changed (SetLb name bound) k = var_kept name (λ v. record v { lower = bound }) (λ v i. record { lower = k; upper = i.upper; obj = i.obj })
  kept_changed (SetUb name bound) k = var_kept name (λ v. record v { upper = bound }) (λ v i. record { lower = i.lower; upper = k; obj = i.obj })
  kept_changed (SetObj name x) k = var_kept name (λ v. record v { obj = x }) (λ v i. record { lower = i.lower; upper = i.upper; obj = k })
  kept_changed (SetRhs name x) k = row_kept name (λ r. record r { rhs = x }) (λ r i. record { rhs = k; terms = i.terms })
  kept_changed (SetSense name sense) k = row_kept name (λ r. record r { sense = sense }) (λ r i. record { rhs = i.rhs; terms = i.terms })
  kept_changed (SetKind name kind) k = var_kept name (λ v. record v { kind = kind }) (λ v i. record { lower = i.lower; upper = i.upper; obj = i.obj })
  kept_changed (SetTag name tag) k = var_kept name (λ v. record v { tag = Some tag }) (λ v i. record { lower = i.lower; upper = i.upper; obj = i.obj })
  kept_changed (DelVar name) k = record {
    constant = h.constant;
    vars = all_filter IsKeptVar (λ v. not (is_var name v)) m.vars h.vars;
    rows = all_mapped IsKeptRow IsKeptRow (in_row (without_place (var_place name m))) m.rows h.rows
        (λ r i. record {
          rhs = i.rhs;
          terms = all_mapped (λ (t : Term). IsKept t.coef) (λ (t : Term). IsKept t.coef) (moved (var_place name m)) (filter (λ t. not (t.var == var_place name m)) r.terms)
              (all_filter (λ (t : Term). IsKept t.coef) (λ t. not (t.var == var_place name m)) r.terms i.terms)
              (λ t e. subst IsKept (sym (coef_step (var_place name m) (nat_lt (var_place name m) t.var) t)) e);
        });
  }
  kept_changed (DelConstr name) k = record { constant = h.constant; vars = h.vars; rows = all_filter IsKeptRow (λ r. not (is_row name r)) m.rows h.rows }

pub kept_one : (m n : Model) (c : Change) → HasKeptNumbers m → HasKeptNumbersOf c → one m c ≡ Ok n → HasKeptNumbers n
kept_one m n c h k e = subst HasKeptNumbers ((accepted (has_names m c) (has_duplicate m c) (changed c m) n e).3) (kept_changed m h c k)

pub kept_after : {A : Type 0} (r : Result A Refusal) (m n : Model) (c : Change) → HasKeptNumbers m → HasKeptNumbersOf c → OnOk r (one m c ≡ Ok n) → OnErr r (n ≡ m) → HasKeptNumbers n
kept_after (Ok a) m n c h k ok err = kept_one m n c h k ok
kept_after (Err e) m n c h k ok err = subst HasKeptNumbers (sym err) h
