-- The case under way, and those that are to come.
use Rattle.std.specs.Prelude.{◌≡◌, List, [], ◌∷◌, Option, Some, None}
use Rattle.solve_defs.specs.Bounds.{Bounds}
use Rattle.cert_check.specs.declared.cases.Entry.{Entry}

-- a case that waits: the bounds that it begins with, and what comes on top of them
pub record Situation : Type 0 where
  pub bounds : List Bounds
  pub entry : Entry

-- the bounds in the case under way, and the cases that are to come, the next one first
pub record Open : Type 0 where
  pub bounds : List Bounds
  pub later : List Situation

-- the next case begins, where one is to come
abbrev pub Begins : List Situation → Option Entry → Open → Type 0
Begins [] None new = new.later ≡ []
Begins [] (Some entry) new = ⊥
Begins (next ∷ later) None new = ⊥
Begins (next ∷ later) (Some entry) new = (entry ≡ next.entry) × (new ≡ record { bounds = next.bounds; later = later })
