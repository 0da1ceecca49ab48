-- What a script writes: a dialogue, step by step. One fold over the lines of the script with their blocks.
use Rattle.std.specs.Prelude.{ℕ, ◌+◌, List, [], ◌∷◌, Option, Some, None, option_and_then, option_map}
use Rattle.cluster_defs.specs.Journal.{Event}
use Rattle.hub_core.specs.declared.setup.Limits.{Limits}
use Rattle.model_data.specs.declared.batch.BatchBody.{BatchBody}
use Rattle.model_data.specs.declared.batch.BatchResult.{BatchResult}
use Rattle.session.specs.Beginning.{Beginning}
use Rattle.session.specs.Dialogue.{Going, Over, Said, Dialogue}
use Rattle.session.specs.Writing.{Writing, writing_by}
use Rattle.script_text.specs.Steps.{block_wanted, command_words, step_of}
use Rattle.script_text.specs.declared.step.Step.{Step}
use Rattle.script_text.specs.declared.step.Step.TheVariants as steps
use Rattle.table_defs.specs.Table.{Table}
use Rattle.wire_text.specs.Line.{words_of}
use Rattle.replay_world.specs.Events.{step_event}
use Rattle.replay_world.specs.Steps.{Memory, Found, Stepped, says, stepped}
use Rattle.replay_world.specs.World.{World, first_world, usual_limits}

-- before the first line, or so many lines behind it
pub data Standing : Type 0 where
  Fresh : Standing
  Behind : (lines : ℕ) → World → Standing

-- where a script stands, and what its steps to come find of memory
pub record Script : Type 0 where
  pub standing : Standing
  pub memory : List Memory

-- What came of a line. A script that is refused ends with the number of its line. A step that was done tells what it was to the
-- journal, and the table that is open behind it, where one is.
pub data Deed : Type 0 where
  RefusedAt : (line : ℕ) → Deed
  Went : Option Event → Option Table → Deed

-- the table of the open hub
abbrev pub table_in : World → Option Table
table_in w = option_map (λ hub. hub.store.table) w.hub

abbrev pub first_memory : List Memory → Memory
first_memory [] = Found
first_memory (memory ∷ later) = memory

abbrev pub memory_later : List Memory → List Memory
memory_later [] = []
memory_later (memory ∷ later) = later

abbrev pub refused : (line : ℕ) → Said Script Deed
refused line = record { told = record { text = []; deeds = RefusedAt line ∷ [] }; course = Over }

abbrev pub goes_on : (line : ℕ) → Option Event → List Memory → Stepped → Said Script Deed
goes_on line event later s = record { told = record { text = s.text; deeds = Went event (table_in s.world) ∷ [] }; course = Going (record { standing = Behind line s.world; memory = later }) }

abbrev pub said_by : (line : ℕ) → Option Event → List Memory → Option Stepped → Said Script Deed
said_by line event later None = refused line
said_by line event later (Some s) = goes_on line event later s

abbrev pub lines_behind : Standing → ℕ
lines_behind Fresh = 0
lines_behind (Behind lines w) = lines

-- the number of the next line
abbrev pub next_line : Standing → ℕ
next_line standing = lines_behind standing + 1

-- the limits that a line sets
abbrev pub limits_of : Option Step → Option Limits
limits_of (Some (steps.Limits commands bytes journal)) = Some (record { commands = commands; bytes = bytes; journal = journal })
limits_of found = None

-- What batches come to isn't looked at.
module _ (plain : BatchBody → BatchResult) where
  -- the line of this number, in a world
  abbrev pub line_said : (line : ℕ) → World → Option Step → (words : List (List ℕ)) → (block : List ℕ) → List Memory → Said Script Deed
  line_said line w found words block memory =
      said_by line (option_and_then (λ step. step_event plain w step words block (first_memory memory)) found) (memory_later memory)
      (option_and_then (λ step. stepped plain w step words block (first_memory memory)) found)

  -- The first line may be the limits. In the world before it nothing is kept yet.
  abbrev pub first_by : Option Limits → Option Step → (words : List (List ℕ)) → (block : List ℕ) → List Memory → Said Script Deed
  first_by (Some limits) found words block memory = goes_on 1 None (memory_later memory) (says (first_world limits) [])
  first_by None found words block memory = line_said 1 (first_world usual_limits) found words block memory

  abbrev pub first_said : Option Step → (words : List (List ℕ)) → (block : List ℕ) → List Memory → Said Script Deed
  first_said found words block memory = first_by (limits_of found) found words block memory

  abbrev pub answer_in : Standing → Option Step → (words : List (List ℕ)) → (block : List ℕ) → List Memory → Said Script Deed
  answer_in Fresh found words block memory = first_said found words block memory
  answer_in (Behind lines w) found words block memory = line_said (lines + 1) w found words block memory

  -- to a line with its block
  abbrev pub answer_to : Standing → (line block : List ℕ) → List Memory → Said Script Deed
  answer_to standing line block memory = answer_in standing (step_of (words_of line)) (command_words (words_of line)) block memory

  -- A line whose block the script's end cuts short is refused.
  abbrev pub script_dialogue : Dialogue Script Deed
  script_dialogue = record {
    wants = block_wanted;
    answer = λ script line block. answer_to script.standing line block script.memory;
    cut = λ script line part. refused (next_line script.standing);
  }

  -- what a script tells, by what its steps find of memory
  abbrev pub script_writing : Beginning → List Memory → Writing Deed
  script_writing beginning memory = writing_by script_dialogue beginning (record { standing = Fresh; memory = memory })

-- ---- where it is refused

abbrev pub line_of : List Deed → Option ℕ
line_of [] = None
line_of (RefusedAt line ∷ deeds) = Some line
line_of (Went event table ∷ deeds) = line_of deeds

-- the line of an input that is refused, where one is
abbrev pub refused_line : Writing Deed → (input : List ℕ) → Option ℕ
refused_line writing input = line_of (writing.whole input).deeds
