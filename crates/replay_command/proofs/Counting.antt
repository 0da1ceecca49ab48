-- The number of a line that is refused, by induction on the lines.
use Rattle.std.proofs.Common.{◌≡◌, ℕ, ◌+◌, List, [], ◌∷◌, Option, None, Some, refl, sym, ap, subst, ◌∙◌, arith}
use Rattle.std.specs.Prelude.{option_and_then, unwrap_or}
use Rattle.base_io.specs.Frames.{Frame, Whole, Cut, TooLong}
use Rattle.cluster_defs.specs.Journal.{Event}
use Rattle.hub_core.specs.declared.setup.Limits.{Limits}
use Rattle.model_data.specs.declared.batch.BatchBody.{BatchBody}
use Rattle.model_data.specs.declared.batch.BatchResult.{BatchResult}
use Rattle.script_text.specs.Steps.{command_words, step_of}
use Rattle.script_text.specs.declared.step.Step.{Step}
use Rattle.wire_text.specs.Line.{words_of}
use Rattle.session.specs.Dialogue.{Going, Long, Said, behind, is_going, said, says_nothing, told_nothing}
use Rattle.replay_world.specs.Events.{step_event}
use Rattle.replay_world.specs.Steps.{Memory, Stepped, says, stepped}
use Rattle.replay_world.specs.World.{World, first_world, usual_limits}
use Rattle.replay_command.specs.Numbering.{IsLineAt}
use Rattle.replay_command.specs.Script.{Behind, Deed, Fresh, Script, Standing, answer_in, answer_to, first_by, first_memory, goes_on, limits_of, line_of, line_said, memory_later, next_line, refused, said_by, script_dialogue}

-- A line is refused, or it goes on behind it.
data Answered (line : ℕ) (answer : Said Script Deed) : Type 0 where
  no : answer ≡ refused line → Answered line answer
  yes : (w : World) (event : Option Event) (later : List Memory) (text : List ℕ) → answer ≡ goes_on line event later (says w text) → Answered line answer

said_cases : (line : ℕ) (event : Option Event) (later : List Memory) (found : Option Stepped) → Answered line (said_by line event later found)
said_cases line event later None = no refl
said_cases line event later (Some s) = yes s.world event later s.text refl

line_cases : (plain : BatchBody → BatchResult) (line : ℕ) (w : World) (found : Option Step) (words : List (List ℕ)) (block : List ℕ) (memory : List Memory) → Answered line (line_said plain line w found words block memory)
line_cases plain line w found words block memory =
    said_cases line (option_and_then (λ step. step_event plain w step words block (first_memory memory)) found) (memory_later memory) (option_and_then (λ step. stepped plain w step words block (first_memory memory)) found)

first_cases : (plain : BatchBody → BatchResult) (limits : Option Limits) (found : Option Step) (words : List (List ℕ)) (block : List ℕ) (memory : List Memory) → Answered 1 (first_by plain limits found words block memory)
first_cases plain None found words block memory = line_cases plain 1 (first_world usual_limits) found words block memory
first_cases plain (Some limits) found words block memory = yes (first_world limits) None (memory_later memory) [] refl

answer_cases : (plain : BatchBody → BatchResult) (standing : Standing) (found : Option Step) (words : List (List ℕ)) (block : List ℕ) (memory : List Memory) → Answered (next_line standing) (answer_in plain standing found words block memory)
answer_cases plain Fresh found words block memory = first_cases plain (limits_of found) found words block memory
answer_cases plain (Behind lines w) found words block memory = line_cases plain (lines + 1) w found words block memory

none≢some : {n : ℕ} → None ≡ Some n → ⊥
none≢some h = cc

module _ (plain : BatchBody → BatchResult) where
  -- nothing is said once a line was too long
  said-long : (lines : List Frame) → said (script_dialogue plain) Long lines ≡ says_nothing Long
  said-long [] = refl
  said-long (x ∷ xs) = ap (behind told_nothing) (said-long xs)

  -- a line of these is refused, of this number
  abbrev RefusesIn : Script → List Frame → ℕ → Type 0
  RefusesIn script lines line = line_of (said (script_dialogue plain) (Going script) lines).told.deeds ≡ Some line

  abbrev told_behind : Said Script Deed → List Frame → Said Script Deed
  told_behind answer lines = behind answer.told (said (script_dialogue plain) answer.course lines)

  behind_line : (script : Script) (frame : Frame) (lines : List Frame) (line : ℕ) (answer : Said Script Deed)
      → ((front : List Frame) → said (script_dialogue plain) (Going script) (frame ∷ front) ≡ told_behind answer front)
      → Answered (next_line script.standing) answer → ((next : Script) → RefusesIn next lines line → IsLineAt plain next line lines)
      → line_of (told_behind answer lines).told.deeds ≡ Some line → IsLineAt plain script line (frame ∷ lines)
  behind_line script frame lines line answer fronts (no is) later refuses =
      let here : Some (next_line script.standing) ≡ Some line = subst (λ (a : Said Script Deed). line_of (told_behind a lines).told.deeds ≡ Some line) is refuses in
      record {
        before = [];
        here = frame;
        after = lines;
        parts = refl;
        counted = let n : next_line script.standing ≡ line = ap (λ (o : Option ℕ). unwrap_or o 0) here in omega (arith, n);
        going = refl;
      }
  behind_line script frame lines line answer fronts (yes w event memory text is) later refuses =
      let next : Script = record { standing = Behind (next_line script.standing) w; memory = memory } in
      let found = later next (subst (λ (a : Said Script Deed). line_of (told_behind a lines).told.deeds ≡ Some line) is refuses) in
      record {
        before = frame ∷ found.before;
        here = found.here;
        after = found.after;
        parts = ap (λ (l : List Frame). frame ∷ l) found.parts;
        counted = omega (arith, found.counted);
        going = ap (λ (s : Said Script Deed). is_going s.course) (fronts found.before ∙ ap (λ (a : Said Script Deed). told_behind a found.before) is) ∙ found.going;
      }

  pub counted : (lines : List Frame) (script : Script) (line : ℕ) → RefusesIn script lines line → IsLineAt plain script line lines
  counted [] script line refuses = absurd (none≢some refuses)
  counted (Whole text block ∷ lines) script line refuses =
      behind_line script (Whole text block) lines line (answer_to plain script.standing text block script.memory) (λ front. refl)
      (answer_cases plain script.standing (step_of (words_of text)) (command_words (words_of text)) block script.memory)
      (λ next. counted lines next line) refuses
  counted (Cut text part ∷ lines) script line refuses =
      behind_line script (Cut text part) lines line (refused (next_line script.standing)) (λ front. refl) (no refl) (λ next. counted lines next line) refuses
  counted (TooLong ∷ lines) script line refuses =
      absurd (none≢some (sym (ap (λ (s : Said Script Deed). line_of s.told.deeds) (said-long lines)) ∙ refuses))
