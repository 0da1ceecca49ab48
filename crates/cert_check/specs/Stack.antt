-- The cases that wait, on a stack.
use Rattle.std.specs.Prelude.{ℕ, ◌<◌, List, [], ◌∷◌, length, reverse, slice_set}
use Rattle.solve_defs.specs.Bounds.{Bounds}
use Rattle.cert_check.specs.Open.{Open, Situation}
use Rattle.cert_check.specs.declared.cases.Cases.TheInside.{Inside}
use Rattle.cert_check.specs.declared.cases.Kept.{Kept}
use Rattle.cert_check.specs.declared.cases.Kept.TheVariants.{Before, Waiting}

-- The cases that wait, the next one first, where these are the bounds above what is kept, and the top stands first.
abbrev pub waiting : List Bounds → List Kept → List Situation
waiting bounds [] = []
waiting bounds (Waiting entry ∷ kept) = record { bounds = bounds; entry = entry } ∷ waiting bounds kept
waiting bounds (Before place before ∷ kept) = waiting (slice_set bounds place before) kept

abbrev pub open_of : Inside → Open
open_of c = record { bounds = c.bounds.items; later = waiting c.bounds.items (reverse c.kept.items) }

-- what is kept stood at a place of the bounds
abbrev pub StoodWithin : ℕ → Kept → Type 0
StoodWithin count (Waiting entry) = Unit {0}
StoodWithin count (Before place before) = place < count

abbrev pub AllWithin : ℕ → List Kept → Type 0
AllWithin count [] = Unit {0}
AllWithin count (top ∷ kept) = StoodWithin count top × AllWithin count kept

abbrev pub IsStacked : Inside → Type 0
IsStacked c = AllWithin (length c.bounds.items) (reverse c.kept.items)
