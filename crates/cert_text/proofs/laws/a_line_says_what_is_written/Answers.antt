use Rattle.cert_text.proofs.EntryTexts.{line_says}
use Rattle.cert_text.proofs.laws.a_line_says_what_is_written.Goals as goal

pub returns : goal.returns
returns c = line_says
