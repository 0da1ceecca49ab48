-- The answer to the first line, by that to a line in a world.
use Rattle.std.proofs.Common.{◌≡◌, ℕ, List, [], ◌∷◌, Option, None, Some, Result, refl, sym, ap, subst, ◌∙◌}
use Rattle.std.specs.Prelude.{Ok, Err}
use Rattle.std.proofs.lemmas.List.{append-nil}
use Rattle.base_names.specs.declared.memory.NoMemory.{NoMemory}
use Rattle.cluster_defs.specs.Journal.{Journal, none_yet}
use Rattle.hub_core.specs.declared.setup.Limits.{Limits}
use Rattle.script_text.specs.declared.step.Step.{Step}
use Rattle.session.specs.Dialogue.{Going, Said}
use Rattle.replay_world.specs.Steps.{Found}
use Rattle.replay_world.specs.Views.{HasJournal, IsWhole, view}
use Rattle.replay_world.specs.World as world
use Rattle.replay_world.specs.World.{first_world, usual_limits}
use Rattle.replay_world.specs.declared.world.World.{World}
use Rattle.replay_command.specs.Answering.{AnswerSays, GoesOn, SaidBy}
use Rattle.replay_command.specs.Script as script
use Rattle.replay_command.specs.Script.{Deed, Script, Went, first_by, first_said, limits_of, line_said, table_in}
use Rattle.replay_command.specs.declared.standing.Answer.{Answer}
use Rattle.replay_command.specs.declared.standing.Answer.TheVariants.{Next, Refused}
use Rattle.replay_command.specs.declared.standing.Standing.{Standing}
use Rattle.replay_command.specs.declared.standing.Standing.TheVariants.{Behind}

-- the limits
pub first_goes_on : (w : World) (limits : Limits) (found : Option Step) (words : List (List ℕ)) (block out : List ℕ) → limits_of found ≡ Some limits → IsWhole w → view w ≡ first_world limits → HasJournal none_yet w.machine
    → GoesOn 1 (Behind 1 w) (λ plain memory. first_said plain found words block memory) (λ j. j ≡ none_yet) out out
first_goes_on w limits found words block out sets whole is has = record {
  whole = whole;
  behind = refl;
  text = [];
  memory = Found;
  event = None;
  is = λ plain later.
      ap (λ (l : Option Limits). first_by plain l found words block (Found ∷ later)) sets
      ∙ ap (λ (v : world.World). let s : Said Script Deed = record { told = record { text = []; deeds = Went None (table_in v) ∷ [] }; course = Going (record { standing = script.Behind 1 v; memory = later }) } in s) (sym is);
  wrote = sym (append-nil out);
  leads = λ j none. (j, refl, subst (λ (k : Journal). HasJournal k w.machine) (sym none) has);
}

-- any other line, in a world with the usual limits
goes_first : (next : Standing) (had : Journal → Type 0) (said : SaidBy) (out out' : List ℕ) → had none_yet → GoesOn 1 next said had out out' → GoesOn 1 next said (λ j. j ≡ none_yet) out out'
goes_first next had said out out' has on = record {
  whole = on.whole;
  behind = on.behind;
  text = on.text;
  memory = on.memory;
  event = on.event;
  is = on.is;
  wrote = on.wrote;
  leads = λ j none. on.leads j (subst had (sym none) has);
}

says_first : (result : Result Answer NoMemory) (had : Journal → Type 0) (said : SaidBy) (out out' : List ℕ) → had none_yet → AnswerSays result 1 said had out out' → AnswerSays result 1 said (λ j. j ≡ none_yet) out out'
says_first (Ok (Next next)) had said out out' has on = goes_first next had said out out' has on
says_first (Ok (Refused number)) had said out out' has is = is
says_first (Err e) had said out out' has is = tt

pub first_answers : (result : Result Answer NoMemory) (found : Option Step) (w : World) (words : List (List ℕ)) (block out out' : List ℕ) → limits_of found ≡ None → view w ≡ first_world usual_limits → HasJournal none_yet w.machine
    → AnswerSays result 1 (λ plain memory. line_said plain 1 (view w) found words block memory) (λ j. HasJournal j w.machine) out out' → AnswerSays result 1 (λ plain memory. first_said plain found words block memory) (λ j. j ≡ none_yet) out out'
first_answers result found w words block out out' none is has says =
    let usual : AnswerSays result 1 (λ plain memory. line_said plain 1 (first_world usual_limits) found words block memory) (λ j. j ≡ none_yet) out out' =
    subst (λ (v : world.World). AnswerSays result 1 (λ plain memory. line_said plain 1 v found words block memory) (λ j. j ≡ none_yet) out out') is
    (says_first result (λ j. HasJournal j w.machine) (λ plain memory. line_said plain 1 (view w) found words block memory) out out' has says) in
    subst (λ (l : Option Limits). AnswerSays result 1 (λ plain memory. first_by plain l found words block memory) (λ j. j ≡ none_yet) out out') (sym none) usual
