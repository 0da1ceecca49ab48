-- A change of one field keeps the limits and what the tables say.
use Rattle.std.proofs.Common.{◌≡◌, refl, sym, ◌∙◌, ap, ap₂, subst, ℕ, ◌≤◌, ◌+◌, Bool, true, false, ◌||◌, if◌then◌else◌, List, [], ◌∷◌, length, map, sum_by, bytes_eq, Option}
use Rattle.std.specs.List.{list_any}
use Rattle.std.specs.Option.{option_map_or}
use Rattle.std.proofs.lemmas.List.{length-map}
use Rattle.std.proofs.lemmas.List.Sums.{sum_by-cons}
use Rattle.model_data.specs.Lawful.{IsLawful}
use Rattle.model_data.specs.declared.limits.TheConstants.{MAX_ROWS, MAX_TERMS, MAX_VARS}
use Rattle.model_data.specs.declared.model.Model.{Model}
use Rattle.model_data.specs.declared.model.Row.{Row}
use Rattle.model_data.specs.declared.model.Var.{Var}
use Rattle.model_core.specs.Effect.{on_row, on_var}
use Rattle.model_core.specs.Indexed.{IsIndexOf}
use Rattle.model_core.specs.Named.{has_tag, is_row, is_var}
use Rattle.model_core.specs.One.{is_too_large}
use Rattle.model_core.specs.declared.tables.Tables.{Tables}
use Rattle.model_core.proofs.ByName.{map-changed}
use Rattle.model_core.proofs.Judged.{within}

test_step : {X : Type 0} (f : X → Bool) (b : Bool) (x y : X) → f y ≡ f x → f (if b then y else x) ≡ f x
test_step f true x y same = same
test_step f false x y same = refl

-- a test that a change doesn't move answers the same of all
pub any-changed : {X : Type 0} (f : X → Bool) (p : X → Bool) (change : X → X) (xs : List X) → ((x : X) → f (change x) ≡ f x)
    → list_any f (map (λ x. if p x then change x else x) xs) ≡ list_any f xs
any-changed f p change [] same = refl
any-changed f p change (x ∷ xs) same = ap₂ (λ a b. a || b) (test_step f (p x) x (change x) (same x)) (any-changed f p change xs same)

size_step : {X : Type 0} (f : X → ℕ) (b : Bool) (x y : X) → f y ≡ f x → f (if b then y else x) ≡ f x
size_step f true x y same = same
size_step f false x y same = refl

pub sum-changed : {X : Type 0} (f : X → ℕ) (p : X → Bool) (change : X → X) (xs : List X) → ((x : X) → f (change x) ≡ f x)
    → sum_by f (map (λ x. if p x then change x else x) xs) ≡ sum_by f xs
sum-changed f p change [] same = refl
sum-changed f p change (x ∷ xs) same =
    let step = λ (y : _). if p y then change y else y in
    sum_by-cons f (step x) (map step xs)
    ∙ ap₂ (λ a b. a + b) (size_step f (p x) x (change x) (same x)) (sum-changed f p change xs same)
    ∙ sym (sum_by-cons f x xs)

module _ (name : List ℕ) (change : Var → Var) (m : Model) where
  pub on_var-within : IsLawful m → is_too_large (on_var name change m) ≡ false
  on_var-within h =
      within (on_var name change m)
      (subst (λ (n : ℕ). n ≤ MAX_VARS) (sym (length-map m.vars (λ (v : Var). if is_var name v then change v else v))) h.var_limit)
      h.row_limit h.term_limit

  pub on_var-index : (tables : Tables) → IsIndexOf tables m → ((v : Var) → (change v).name ≡ v.name) → ((v : Var) → (change v).tag ≡ v.tag)
      → IsIndexOf tables (on_var name change m)
  on_var-index tables h names tags = record {
    vars = h.vars ∙ sym (map-changed (λ (v : Var). v.name) (is_var name) change m.vars names);
    rows = h.rows;
    tags = λ tag. h.tags tag ∙ sym (any-changed (has_tag tag) (is_var name) change m.vars (λ v. ap (λ (t : Option (List ℕ)). option_map_or (bytes_eq tag) t false) (tags v)));
    terms = h.terms;
  }

module _ (name : List ℕ) (change : Row → Row) (m : Model) (same : (r : Row) → length (change r).terms ≡ length r.terms) where
  pub on_row-within : IsLawful m → is_too_large (on_row name change m) ≡ false
  on_row-within h =
      within (on_row name change m) h.var_limit
      (subst (λ (n : ℕ). n ≤ MAX_ROWS) (sym (length-map m.rows (λ (r : Row). if is_row name r then change r else r))) h.row_limit)
      (subst (λ (n : ℕ). n ≤ MAX_TERMS) (sym (sum-changed (λ (r : Row). length r.terms) (is_row name) change m.rows same)) h.term_limit)

  pub on_row-index : (tables : Tables) → IsIndexOf tables m → ((r : Row) → (change r).name ≡ r.name) → IsIndexOf tables (on_row name change m)
  on_row-index tables h names = record {
    vars = h.vars;
    rows = h.rows ∙ sym (map-changed (λ (r : Row). r.name) (is_row name) change m.rows names);
    tags = h.tags;
    terms = h.terms ∙ sym (sum-changed (λ (r : Row). length r.terms) (is_row name) change m.rows same);
  }
