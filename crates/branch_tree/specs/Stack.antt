-- The nodes that wait, on a stack.
use Rattle.std.specs.Prelude.{ℕ, ◌≤◌, List, [], ◌∷◌, ◌++◌, length, map, reverse, take}
use Rattle.solve_defs.specs.declared.cut.Cut.{Cut}
use Rattle.branch_tree.specs.Waits.{Open}
use Rattle.branch_tree.specs.declared.cases.Cases.TheInside.{Inside}
use Rattle.branch_tree.specs.declared.cases.Waiting.{Waiting}

-- the cuts of a node that waits, where those of the node under way are given
abbrev pub cuts_of : List Cut → Waiting → List Cut
cuts_of path node = take node.depth path ++ node.cut ∷ []

abbrev pub open_of : Inside → Open
open_of c = record { own = c.path.items; waiting = map (cuts_of c.path.items) (reverse c.waiting.items) }

-- From the last one on, none is deeper than the one before.
abbrev pub Nests : ℕ → List Waiting → Type 0
Nests depth [] = Unit {0}
Nests depth (node ∷ nodes) = (node.depth ≤ depth) × Nests node.depth nodes

abbrev pub IsStacked : Inside → Type 0
IsStacked c = Nests (length c.path.items) (reverse c.waiting.items)
