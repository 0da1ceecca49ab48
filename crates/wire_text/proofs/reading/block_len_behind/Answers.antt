use Rattle.std.proofs.Common.{ap, sym, ◌∙◌}
use Rattle.wire_text.specs.Commands.{block_len_of}
use Rattle.wire_text.proofs.Blocks.{read_behind-no_block}
use Rattle.wire_text.proofs.Answered.{unwrap_or-given}
use Rattle.wire_text.proofs.reading.block_len_behind.Goals as goal

pub returns-in-Read : goal.returns-in-Read
returns-in-Read c = rw c.in-Read.is (c.unwrap_or.ensures ∙ (unwrap_or-given c.size_behind.result ∙ ap block_len_of c.size_behind.ensures))

pub returns-in_default : goal.returns-in_default
returns-in_default c = sym (read_behind-no_block _ _ c.in_default.not-Read)
