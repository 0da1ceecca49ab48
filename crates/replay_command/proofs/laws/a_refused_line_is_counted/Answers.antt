use Rattle.base_io.specs.Frames.{frames_of}
use Rattle.script_text.specs.Steps.{block_wanted}
use Rattle.replay_command.specs.Script.{Fresh}
use Rattle.replay_command.proofs.Counting.{counted}
use Rattle.replay_command.proofs.laws.a_refused_line_is_counted.Goals as goal

pub returns : goal.returns
returns c plain memory line input refuses = counted plain (frames_of block_wanted input) (record { standing = Fresh; memory = memory }) line refuses
