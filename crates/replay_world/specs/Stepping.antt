-- What a step did to a world in memory and to the buffer that it writes into.
use Rattle.std.specs.Prelude.{ℕ, ◌≡◌, List, ◌++◌, Option, Some, None}
use Rattle.cluster_defs.specs.Journal.{Event}
use Rattle.model_data.specs.declared.batch.BatchBody.{BatchBody}
use Rattle.model_data.specs.declared.batch.BatchResult.{BatchResult}
use Rattle.script_text.specs.declared.step.Step.{Step}
use Rattle.replay_world.specs.Events.{step_event}
use Rattle.replay_world.specs.Steps.{Memory, Stepped, says, stepped}
use Rattle.replay_world.specs.Views.{IsWhole, Leads, view}
use Rattle.replay_world.specs.declared.taken.Taken.{Taken}
use Rattle.replay_world.specs.declared.taken.Taken.TheVariants.{Done, Refused}
use Rattle.replay_world.specs.declared.world.World as worlds

-- This is the world behind the step, and this stands behind what stood in the buffer before. Or the step is refused.
abbrev pub Took : Taken → Option Stepped → (next : worlds.World) → (before after : List ℕ) → Type 0
Took Done step next before after = IsWhole next × ((text : List ℕ) × (step ≡ Some (says (view next) text)) × (after ≡ before ++ text))
Took Refused step next before after = (step ≡ None) × (after ≡ before)

-- The step finds this of memory, and with that makes of the old world the next one. What it is to the journal leads from that of the
-- old machine to that of the next one.
pub record Makes (old next : worlds.World) (step : Step) (words : List (List ℕ)) (block text : List ℕ) : Type 0 where
  pub memory : Memory
  pub is : (plain : BatchBody → BatchResult) → stepped plain (view old) step words block memory ≡ Some (says (view next) text)
  pub event : Option Event
  pub event_is : (plain : BatchBody → BatchResult) → step_event plain (view old) step words block memory ≡ event
  pub leads : Leads event old next

-- The same of any step, by what it finds of memory, whatever plain results are. One that is refused is so whatever it finds.
abbrev pub StepSays : Taken → (old : worlds.World) → Step → (words : List (List ℕ)) → (block : List ℕ) → (next : worlds.World) → (before after : List ℕ) → Type 0
StepSays Done old step words block next before after = IsWhole next × ((text : List ℕ) × Makes old next step words block text × (after ≡ before ++ text))
StepSays Refused old step words block next before after =
    ((plain : BatchBody → BatchResult) (memory : Memory) → stepped plain (view old) step words block memory ≡ None) × (after ≡ before)
