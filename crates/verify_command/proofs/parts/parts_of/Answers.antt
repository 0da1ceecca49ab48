use Rattle.verify_command.proofs.InputParts.{no_word, parts_behind}
use Rattle.verify_command.proofs.parts.parts_of.Goals as goal

pub returns-in-Some : goal.returns-in-Some
returns-in-Some c = parts_behind c.args.input.now c.in-Some.bytes.now c.counted_parts.result c.in-Some.ensures c.counted_parts.ensures

pub returns-in-None : goal.returns-in-None
returns-in-None c = no_word c.args.input.now c.in-None.ensures
