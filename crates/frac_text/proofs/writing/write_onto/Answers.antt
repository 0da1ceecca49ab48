use Rattle.frac_text.proofs.RoundTrip.{reading-canonical_text}
use Rattle.frac_text.proofs.writing.write_onto.Goals as goal

pub returns-clause-read_again : goal.returns-clause-read_again
returns-clause-read_again c = reading-canonical_text c.args.value.now c.num.ensures.kept
