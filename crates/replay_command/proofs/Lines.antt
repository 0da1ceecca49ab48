-- How a script goes on behind a step that was done.
use Rattle.std.proofs.Common.{◌≡◌, ℕ, List, ◌∷◌, ◌++◌, Option, Some, refl, subst, ap, ap₂, ◌∙◌}
use Rattle.cluster_defs.specs.Journal.{Event}
use Rattle.script_text.specs.declared.step.Step.{Step}
use Rattle.replay_world.specs.Stepping.{Makes, StepSays}
use Rattle.replay_world.specs.Steps.{Stepped}
use Rattle.replay_world.specs.Views.{HasJournal, IsWhole, view}
use Rattle.replay_world.specs.declared.taken.Taken.{Taken}
use Rattle.replay_world.specs.declared.taken.Taken.TheVariants.{Done}
use Rattle.replay_world.specs.declared.world.World.{World}
use Rattle.replay_command.specs.Answering.{GoesOn}
use Rattle.replay_command.specs.Script.{line_said, said_by}
use Rattle.replay_command.specs.declared.standing.Standing.TheVariants.{Behind}

line_goes_on : (number : ℕ) (w next : World) (found : Option Step) (step : Step) (words : List (List ℕ)) (block text out out' : List ℕ) → found ≡ Some step → IsWhole next → Makes w next step words block text → out' ≡ out ++ text
    → GoesOn number (Behind number next) (λ plain memory. line_said plain number (view w) found words block memory) (λ j. HasJournal j w.machine) out out'
line_goes_on number w next found step words block text out out' is whole makes wrote = record {
  whole = whole;
  behind = refl;
  text = text;
  memory = makes.memory;
  event = makes.event;
  is = λ plain later.
      ap (λ (f : Option Step). line_said plain number (view w) f words block (makes.memory ∷ later)) is
      ∙ ap₂ (λ (e : Option Event) (o : Option Stepped). said_by number e later o) (makes.event_is plain) (makes.is plain);
  wrote = wrote;
  leads = makes.leads;
}

-- the same from what is said of the step, whose words are those of the line behind its first ones
pub done_goes_on : (number : ℕ) (w next : World) (found : Option Step) (step : Step) (words words' : List (List ℕ)) (block out out' : List ℕ) (taken : Taken) → found ≡ Some step → words ≡ words' → taken ≡ Done → StepSays taken w step words block next out out'
    → GoesOn number (Behind number next) (λ plain memory. line_said plain number (view w) found words' block memory) (λ j. HasJournal j w.machine) out out'
done_goes_on number w next found step words words' block out out' taken is same done says =
    goes_on (subst (λ (t : Taken). StepSays t w step words' block next out out') done (subst (λ (ws : List (List ℕ)). StepSays taken w step ws block next out out') same says)) where
      goes_on : StepSays Done w step words' block next out out' → GoesOn number (Behind number next) (λ plain memory. line_said plain number (view w) found words' block memory) (λ j. HasJournal j w.machine) out out'
      goes_on (whole, (text, makes, wrote)) = line_goes_on number w next found step words' block text out out' is whole makes wrote
