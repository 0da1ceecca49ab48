use Rattle.std.proofs.Common.{drop}
use Rattle.journal.proofs.ReadingLaws.{read_is, so_read}
use Rattle.journal.proofs.laws.a_file_is_read_while_its_gates_are_open.Goals as goal

pub returns-clause-so : goal.returns-clause-so
returns-clause-so c file small = so_read (drop 8 file) small

pub returns-clause-only : goal.returns-clause-only
returns-clause-only c bodies file small read = read_is bodies (drop 8 file) small read
