-- Which line of a script its number tells.
use Rattle.std.specs.Prelude.{ℕ, ◌≡◌, ◌+◌, true, List, ◌∷◌, ◌++◌, length}
use Rattle.base_io.specs.Frames.{Frame}
use Rattle.model_data.specs.declared.batch.BatchBody.{BatchBody}
use Rattle.model_data.specs.declared.batch.BatchResult.{BatchResult}
use Rattle.session.specs.Dialogue.{Going, is_going, said}
use Rattle.replay_command.specs.Script.{Script, lines_behind, script_dialogue}

-- Of these lines, read where a script stands, one has this number, and it went on behind all before that.
pub record IsLineAt (plain : BatchBody → BatchResult) (script : Script) (line : ℕ) (lines : List Frame) : Type 0 where
  pub before : List Frame
  pub here : Frame
  pub after : List Frame
  pub parts : lines ≡ before ++ here ∷ after
  pub counted : line ≡ lines_behind script.standing + length before + 1
  pub going : is_going (said (script_dialogue plain) (Going script) before).course ≡ true
