-- What coefficients by variable have as terms.
use Rattle.std.specs.Prelude.{◌≡◌, ℕ, suc, ◌<◌, ◌≤◌, ◌==◌, Bool, List, [], ◌∷◌, ◌++◌, length, All, pos, unsigned_abs, slice_index_or as get_or, if◌then◌else◌}
use Rattle.frac128.specs.Fraction.{Fraction, zero_value}
use Rattle.model_data.specs.declared.model.Term.{Term}
use Rattle.lp_defs.specs.Draft.{before_terms}

-- the terms of coefficients of the variables from a place on
abbrev pub terms_from : ℕ → List Fraction → List Term
terms_from var [] = []
terms_from var (x ∷ coefs) = before_terms var x (terms_from (suc var) coefs)

abbrev pub terms_of : List Fraction → List Term
terms_of coefs = terms_from 0 coefs

-- a coefficient counts where it isn't 0
abbrev pub weight : Fraction → ℕ
weight x = if unsigned_abs x.num == 0 then 0 else 1

-- 0 is written in one way
abbrev pub tidied : Fraction → Fraction
tidied x = if unsigned_abs x.num == 0 then zero_value else x

abbrev pub AreTidy : List Fraction → Type 0
AreTidy coefs = (var : ℕ) → (get_or coefs var zero_value).num ≡ pos 0 → get_or coefs var zero_value ≡ zero_value

-- the same coefficients, and zeros behind them
pub record IsLonger (short long : List Fraction) : Type 0 where
  pub same : (var : ℕ) → get_or long var zero_value ≡ get_or short var zero_value
  pub longer : length short ≤ length long
  pub same_terms : (n : ℕ) → terms_from n long ≡ terms_from n short

-- the variable stands in the list, from an index on
abbrev pub IsNamedFrom : ℕ → List ℕ → ℕ → Type 0
IsNamedFrom k named var = (j : ℕ) × (k ≤ j) × (j < length named) × (get_or named j var ≡ var)

-- a variable that isn't in the list, from an index on, has no term
abbrev pub AreNamedFrom : ℕ → List ℕ → List Fraction → Type 0
AreNamedFrom k named coefs = (var : ℕ) → (IsNamedFrom k named var → ⊥) → get_or coefs var zero_value ≡ zero_value

abbrev pub AreBelow : ℕ → List ℕ → Type 0
AreBelow n vars = All (λ var. var < n) vars

abbrev pub AreRising : List ℕ → Type 0
AreRising named = (i j d : ℕ) → i ≤ j → j < length named → get_or named i d ≤ get_or named j d

abbrev pub named_with : Bool → List ℕ → ℕ → List ℕ
named_with is_new named var = if is_new then named ++ var ∷ [] else named

-- what holds of coefficients, the variables that have some, and how many have
pub record IsTable (coefs : List Fraction) (named : List ℕ) (count : ℕ) : Type 0 where
  pub tidy : AreTidy coefs
  pub named_all : AreNamedFrom 0 named coefs
  pub below : AreBelow (length coefs) named
  pub counted : count ≡ length (terms_of coefs)
