-- A search as it stands, with its model and its limits, and what its turns make of it.
use Rattle.std.specs.Prelude.{◌≡◌, List, Option, Some, None, Result, Ok, Err}
use Rattle.dictionary.specs.Dictionary.{Dictionary}
use Rattle.model_data.specs.declared.model.Model.{Model}
use Rattle.model_data.specs.declared.params.Params.{Params}
use Rattle.solve_defs.specs.Plain as defs
use Rattle.solve_defs.specs.declared.cut.Cut.{Cut}
use Rattle.branch_tree.specs.Counted.{stopped_by}
use Rattle.branch_tree.specs.declared.counts.Stop.{Stop}
use Rattle.branch_tree.specs.declared.done.Done.{Done}
use Rattle.branch_tree.specs.declared.step.Step.{Step}

pub record Stage : Type 0 where
  pub model : Model
  pub params : Params
  pub search : defs.Search

-- where a search stands that goes on, or is over so
abbrev pub progress_of : Option Done → defs.Search → defs.Progress
progress_of None s = defs.going s
progress_of (Some done) s = defs.over done.outcome done.cert

-- the turn that a step makes, which leaves the search there
abbrev pub turn_of : Step → defs.Search → defs.Turn
turn_of step s = record { events = step.events; progress = progress_of step.done s }

-- The step makes this turn, of the same model within the same limits.
pub record Makes (t : defs.Turn) (step : Step) (old new : Stage) : Type 0 where
  pub turn : turn_of step new.search ≡ t
  pub model : new.model ≡ old.model
  pub params : new.params ≡ old.params

-- a node with these cuts begins so, or the search stops before it
abbrev pub begun_as : defs.Search → List Cut → List (List Cut) → Result Dictionary Stop → defs.Progress
begun_as s cuts later (Ok run) = defs.going (record s { waiting = later; node = Some record { cuts = cuts; dictionary = run } })
begun_as s cuts later (Err stop) = stopped_by stop s
