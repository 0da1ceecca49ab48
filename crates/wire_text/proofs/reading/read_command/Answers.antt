use Rattle.std.proofs.Common.{◌≡◌, inr, ap, sym, ◌∙◌}
use Rattle.wire_text.specs.Commands.{command_of}
use Rattle.wire_text.specs.Lawful.{IsLawfulCommand}
use Rattle.wire_text.specs.Line.{words_of}
use Rattle.wire_text.specs.Reading.{read_behind}
use Rattle.wire_text.proofs.Answered.{IfErr-Reads, IfOk-Reads, lawful-Reads}
use Rattle.wire_text.proofs.LawfulCommands.{read_behind-lawful}
use Rattle.wire_text.proofs.Verbs.{command_of_words-verb_at, said_at}
use Rattle.wire_text.proofs.reading.read_command.Goals as goal

pub returns : goal.returns
returns c =
    let said : read_behind c.in-Some.verb (words_of c.in-Some.rest.now) ≡ command_of c.args.line.now = ap said_at c.in-Some.ensures ∙ sym (command_of_words-verb_at (words_of c.args.line.now)) in
    record { read = IfOk-Reads _ _ c.read_behind.result said c.read_behind.ensures; refused = IfErr-Reads _ _ c.read_behind.result said c.read_behind.ensures; lawful = lawful-Reads IsLawfulCommand _ c.read_behind.result c.read_behind.ensures (read_behind-lawful c.in-Some.verb (words_of c.in-Some.rest.now)) }

pub returns-in_default-clause-refused : goal.returns-in_default-clause-refused
returns-in_default-clause-refused c = inr (command_of_words-verb_at (words_of c.args.line.now) ∙ ap said_at (sym c.in_default.ensures))
