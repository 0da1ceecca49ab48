use Rattle.std.proofs.Common.{ap, sym, ◌∙◌}
use Rattle.wire_text.specs.Commands.{block_len_of}
use Rattle.wire_text.specs.Line.{words_of}
use Rattle.wire_text.proofs.Verbs.{command_of_words-verb_at, said_at}
use Rattle.wire_text.proofs.reading.block_len.Goals as goal

pub returns : goal.returns
returns c = c.block_len_behind.ensures ∙ ap block_len_of (ap said_at c.in_ok-verb.ensures ∙ sym (command_of_words-verb_at (words_of c.args.line.now)))

pub returns-in_err-verb : goal.returns-in_err-verb
returns-in_err-verb c = c.from_residual.ensures ∙ ap block_len_of (ap said_at c.in_err-verb.ensures ∙ sym (command_of_words-verb_at (words_of c.args.line.now)))
