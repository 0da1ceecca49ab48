-- Which cuts hold where, as the plain solver has it.
use Rattle.std.specs.Prelude.{List, [], ◌∷◌, Option, Some, None}
use Rattle.solve_defs.specs.declared.cut.Cut.{Cut}

-- the cuts of the node under way, and of each one that is to begin, the next one first
pub record Open : Type 0 where
  pub own : List Cut
  pub waiting : List (List Cut)

-- the cuts of the node that is to begin next, where one waits
abbrev pub next_of : List (List Cut) → Option (List Cut)
next_of [] = None
next_of (cuts ∷ later) = Some cuts
