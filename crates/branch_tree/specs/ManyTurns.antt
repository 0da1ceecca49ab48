-- Any number of turns of a solve, with the events that they tell.
use Rattle.std.specs.Prelude.{◌≡◌, List, [], ◌∷◌}
use Rattle.solve_defs.specs.Plain.{Search, going, turn}
use Rattle.solve_defs.specs.declared.solving.Events.{Events}
use Rattle.branch_tree.specs.Solves.{Solve, Tells}
use Rattle.branch_tree.specs.declared.solving.Turn.{Turn}

-- One turn leads from the one solve to the other, and tells these events.
pub record Advances (events : Events) (old new : Solve) : Type 0 where
  pub search : Search
  pub goes_on : old.progress ≡ going search
  pub told : Turn
  pub tells : Tells (turn old.model old.params search) told old new
  pub events_are : told.events ≡ events

-- Turn by turn, each with its events.
abbrev pub Turned : Solve → List Events → Solve → Type 0
Turned first [] last = last ≡ first
Turned first (own ∷ events) last = (next : Solve) × Advances own first next × Turned next events last
