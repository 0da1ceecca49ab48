-- Whether something is written.
use Rattle.std.specs.Prelude.{ℕ, Bool, true, false, List, [], ◌∷◌}

-- there is a line
abbrev pub is_listed : List (List ℕ) → Bool
is_listed [] = false
is_listed (_ ∷ _) = true
