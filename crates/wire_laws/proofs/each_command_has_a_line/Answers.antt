use Rattle.wire_laws.proofs.Lines.{line_found, line_read}
use Rattle.wire_laws.proofs.each_command_has_a_line.Goals as goal

pub returns : goal.returns
returns c = record { written = line_read; read = line_found }
