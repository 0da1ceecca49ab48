-- Terms by the places of their variables.
use Rattle.std.specs.Prelude.{ℕ, Bool, false, ◌||◌, List, [], ◌∷◌, ◌==◌, bytes_eq}
use Rattle.std.specs.List.{list_any, position_or_len}
use Rattle.model_data.specs.declared.model.Term.{Term}
use Rattle.model_core.specs.declared.change.NamedTerm.{NamedTerm}

abbrev pub place_of : List (List ℕ) → List ℕ → ℕ
place_of names name = position_or_len (bytes_eq name) names

abbrev pub placed : List (List ℕ) → NamedTerm → Term
placed names t = record { var = place_of names t.name; coef = t.coef }

-- two terms have one variable
abbrev pub has_double_var : List Term → Bool
has_double_var [] = false
has_double_var (t ∷ terms) = list_any (λ u. t.var == u.var) terms || has_double_var terms
