use Rattle.std.proofs.Common.{sym, ◌+◌}
use Rattle.std.proofs.lemmas.List.{take_rest}
use Rattle.verify_command.proofs.InputParts.{counted_front, no_line, no_number}
use Rattle.verify_command.proofs.parts.counted_parts.Goals as goal

pub returns-in-Some-read_digits : goal.returns-in-Some-read_digits
returns-in-Some-read_digits c =
    counted_front c.args.bytes.now _ c.in-Some.end c.in-Some-read_digits.len c.front_of.result c.in-Some.ensures c.in-Some-read_digits.ensures
    (take_rest c.args.bytes.now (c.in-Some.end + 1)) c.front_of.ensures

pub returns-in-None-read_digits : goal.returns-in-None-read_digits
returns-in-None-read_digits c = no_number c.args.bytes.now c.in-Some.end (sym c.in-Some.ensures) (sym c.in-None-read_digits.ensures) c.requires

pub returns-in-None : goal.returns-in-None
returns-in-None c = no_line c.args.bytes.now (sym c.in-None.ensures)
