-- A solve as the plain solver has it, and what its calls answer.
use Rattle.std.specs.Prelude.{◌≡◌, Bool, true, false, Result, Ok, Err}
use Rattle.model_data.specs.declared.model.Model.{Model}
use Rattle.model_data.specs.declared.params.Params.{Params}
use Rattle.solve_defs.specs.Plain as defs
use Rattle.branch_tree.specs.declared.done.Done.{Done}
use Rattle.branch_tree.specs.declared.solving.Turn.{Turn}

-- how far the solve of a model within these limits is
pub record Solve : Type 0 where
  pub model : Model
  pub params : Params
  pub progress : defs.Progress

abbrev pub is_over : defs.Progress → Bool
is_over (defs.going s) = false
is_over (defs.over o cert) = true

-- The turn is told whole, and leaves the solve where it says.
pub record Tells (t : defs.Turn) (told : Turn) (old new : Solve) : Type 0 where
  pub events : told.events ≡ t.events
  pub ended : told.ended ≡ is_over t.progress
  pub progress : new.progress ≡ t.progress
  pub model : new.model ≡ old.model
  pub params : new.params ≡ old.params

-- Its end comes out exactly where a turn has ended it.
abbrev pub ended_as : defs.Progress → Solve → Result Done Solve → Type 0
ended_as (defs.over o cert) s (Ok done) = (done.outcome ≡ o) × (done.cert ≡ cert)
ended_as (defs.over o cert) s (Err back) = ⊥
ended_as (defs.going t) s (Ok done) = ⊥
ended_as (defs.going t) s (Err back) = back ≡ s

abbrev pub IsEnded : Solve → Result Done Solve → Type 0
IsEnded s result = ended_as s.progress s result
