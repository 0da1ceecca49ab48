-- Terms that rise by variable, and where the term of a variable stands among them.
use Rattle.std.specs.Prelude.{◌≡◌, ℕ, suc, ◌<◌, ◌≤◌, List, length, AllPairs}
use Rattle.std.specs.List.{AllWithin}
use Rattle.model_data.specs.declared.model.Term.{Term}

abbrev pub IsRising : List Term → Type 0
IsRising terms = AllPairs (λ s t. s.var < t.var) terms

-- the variable's term stands at the place
pub record IsThere (var : ℕ) (terms : List Term) (place : ℕ) : Type 0 where
  pub within : place < length terms
  pub is : AllWithin (λ t. t.var ≡ var) terms place (suc place)
  pub before : AllWithin (λ t. t.var < var) terms 0 place
  pub from : AllWithin (λ t. var ≤ t.var) terms place (length terms)
  pub upto : AllWithin (λ t. t.var ≤ var) terms 0 (suc place)
  pub behind : AllWithin (λ t. var < t.var) terms (suc place) (length terms)

-- the variable has no term, and one would stand at the place
pub record IsMissing (var : ℕ) (terms : List Term) (place : ℕ) : Type 0 where
  pub within : place ≤ length terms
  pub before : AllWithin (λ t. t.var < var) terms 0 place
  pub behind : AllWithin (λ t. var < t.var) terms place (length terms)
