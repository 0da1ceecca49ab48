-- What is said of a new row by the tables.
use Rattle.std.proofs.Common.{◌≡◌, refl, sym, ◌∙◌, ap, ap₂, subst, Bool, true, false, ◌&&◌, ◌||◌, ℕ, List, [], ◌∷◌, ◌++◌, map, bytes_eq, Option, Some, None, IfNone, Result, Ok, Err, IfErr, OnOk, ◌⊎◌, inl, inr}
use Rattle.std.specs.List.{list_all, list_any}
use Rattle.base_names.specs.declared.refusal.Refusal.{Refusal}
use Rattle.base_names.specs.declared.refusal.Refusal.TheVariants.{DUPLICATE, MEMORY, NAME, SIZE}
use Rattle.frac128.specs.Fraction.{Fraction}
use Rattle.model_data.specs.Names.{is_name}
use Rattle.model_data.specs.declared.model.Model.{Model}
use Rattle.model_data.specs.declared.model.Row.{Row}
use Rattle.model_data.specs.declared.model.Sense.{Sense}
use Rattle.model_core.specs.Effect.{changed, terms_from}
use Rattle.model_core.specs.Indexed.{IsIndexOf}
use Rattle.model_core.specs.Named.{knows_var}
use Rattle.model_core.specs.One.{has_double, has_duplicate, has_names, is_too_large, one}
use Rattle.model_core.specs.declared.change.Change.TheVariants.{AddConstr}
use Rattle.model_core.specs.declared.change.NamedTerm.{NamedTerm}
use Rattle.model_core.specs.declared.tables.Tables.{Tables}
use Rattle.model_core.proofs.Judged.{answer-duplicate, answer-name, answer-ok, answer-size}
use Rattle.model_core.proofs.Known.{known_row, known_var}

and_false : (b : Bool) → (b && false) ≡ false
and_false true = refl
and_false false = refl

or_true : (b : Bool) → (b || true) ≡ true
or_true true = refl
or_true false = refl

pub none_of : {X : Type 0} (o : Option X) (P : Type 0) → IfNone o P → ((x : X) → o ≡ Some x → ⊥) → P
none_of None P h k = h
none_of (Some x) P h k = absurd (k x refl)

abbrev pub with_row : Model → Row → Model
with_row m r = record m { rows = m.rows ++ r ∷ [] }

module _ {tables : Tables} {m : Model} (index : IsIndexOf tables m) (name : List ℕ) (sense : Sense) (rhs : Fraction) (terms : List NamedTerm) where
  abbrev known_all : Bool
  known_all = list_all (λ t. list_any (bytes_eq t.name) tables.vars.texts) terms

  abbrev doubled : Bool
  doubled = list_any (bytes_eq name) tables.rows.texts || has_double (map (λ t. t.name) terms)

  all_same : (ts : List NamedTerm) → list_all (λ t. knows_var t.name m) ts ≡ list_all (λ t. list_any (bytes_eq t.name) tables.vars.texts) ts
  all_same [] = refl
  all_same (t ∷ ts) = ap₂ (λ a b. a && b) (known_var index t.name) (all_same ts)

  names_are : has_names m (AddConstr name sense rhs terms) ≡ (is_name name && known_all)
  names_are = ap (λ b. is_name name && b) (all_same terms)

  doubles_are : has_duplicate m (AddConstr name sense rhs terms) ≡ doubled
  doubles_are = ap (λ b. b || has_double (map (λ (t : NamedTerm). t.name) terms)) (known_row index name)

  abbrev row_of_names : List (List ℕ) → Row
  row_of_names names = record { name = name; sense = sense; rhs = rhs; terms = terms_from 0 names terms }

  row_is : (r : Row) → r ≡ row_of_names tables.vars.texts → with_row m r ≡ changed (AddConstr name sense rhs terms) m
  row_is r e = ap (with_row m) (e ∙ ap row_of_names index.vars)

  -- a name that isn't there
  pub row_unnamed : known_all ≡ false → one m (AddConstr name sense rhs terms) ≡ Err NAME
  row_unnamed e =
      answer-name (has_names m (AddConstr name sense rhs terms)) (has_duplicate m (AddConstr name sense rhs terms)) (changed (AddConstr name sense rhs terms) m)
      (names_are ∙ ap (λ b. is_name name && b) e ∙ and_false (is_name name))

  pub row_refused : (r : Refusal) → (r ≡ MEMORY) ⊎ ((r ≡ NAME) × (known_all ≡ false)) → (r ≡ MEMORY) ⊎ (one m (AddConstr name sense rhs terms) ≡ Err r)
  row_refused r (inl e) = inl e
  row_refused r (inr both) = inr (subst (λ (s : Refusal). one m (AddConstr name sense rhs terms) ≡ Err s) (sym (both.0)) (row_unnamed (both.1)))

  module _ (names : (is_name name && known_all) ≡ true) where
    pub row_doubled : doubled ≡ true → one m (AddConstr name sense rhs terms) ≡ Err DUPLICATE
    row_doubled e =
        answer-duplicate (has_names m (AddConstr name sense rhs terms)) (has_duplicate m (AddConstr name sense rhs terms)) (changed (AddConstr name sense rhs terms) m)
        (names_are ∙ names) (doubles_are ∙ e)

    pub row_term_doubled : has_double (map (λ t. t.name) terms) ≡ true → one m (AddConstr name sense rhs terms) ≡ Err DUPLICATE
    row_term_doubled e = row_doubled (ap (λ b. list_any (bytes_eq name) tables.rows.texts || b) e ∙ or_true (list_any (bytes_eq name) tables.rows.texts))

    pub row_name_taken : list_any (bytes_eq name) tables.rows.texts ≡ true → one m (AddConstr name sense rhs terms) ≡ Err DUPLICATE
    row_name_taken e = row_doubled (ap (λ b. b || has_double (map (λ (t : NamedTerm). t.name) terms)) e)

    module _ (single : doubled ≡ false) (r : Row) (is : r ≡ row_of_names tables.vars.texts) where
      pub row_accepted : {A : Type 0} (result : Result A Refusal) (n : Model) → OnOk result (n ≡ with_row m r) → OnOk result (is_too_large (with_row m r) ≡ false)
          → OnOk result (one m (AddConstr name sense rhs terms) ≡ Ok n)
      row_accepted (Ok a) n e small =
          answer-ok (has_names m (AddConstr name sense rhs terms)) (has_duplicate m (AddConstr name sense rhs terms)) (changed (AddConstr name sense rhs terms) m)
          (names_are ∙ names) (doubles_are ∙ single) (subst (λ (k : Model). is_too_large k ≡ false) (row_is r is) small)
          ∙ ap Ok (sym (e ∙ row_is r is))
      row_accepted (Err e) n h small = h

      pub row_too_many : {A : Type 0} (result : Result A Refusal) → IfErr result (λ e. (e ≡ MEMORY) ⊎ ((e ≡ SIZE) × (is_too_large (with_row m r) ≡ true)))
          → IfErr result (λ e. (e ≡ MEMORY) ⊎ (one m (AddConstr name sense rhs terms) ≡ Err e))
      row_too_many (Ok a) h = h
      row_too_many (Err e) (inl memory) = inl memory
      row_too_many (Err e) (inr both) = inr (subst (λ (s : Refusal). one m (AddConstr name sense rhs terms) ≡ Err s) (sym (both.0))
          (answer-size (has_names m (AddConstr name sense rhs terms)) (has_duplicate m (AddConstr name sense rhs terms)) (changed (AddConstr name sense rhs terms) m)
          (names_are ∙ names) (doubles_are ∙ single) (subst (λ (k : Model). is_too_large k ≡ true) (row_is r is) (both.1))))
