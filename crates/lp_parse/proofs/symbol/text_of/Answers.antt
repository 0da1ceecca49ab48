use Rattle.lp_parse.proofs.Plain.{plain_text}
use Rattle.lp_parse.proofs.symbol.text_of.Goals as goal

pub from_utf8_unchecked-requires : goal.from_utf8_unchecked-requires
from_utf8_unchecked-requires c = plain_text c.args.bytes.now c.requires
