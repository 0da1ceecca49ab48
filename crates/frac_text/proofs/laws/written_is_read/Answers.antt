use Rattle.frac_text.proofs.RoundTrip.{reading-canonical_text, canonical_text-injective}
use Rattle.frac_text.proofs.laws.written_is_read.Goals as goal

pub returns-clause-read : goal.returns-clause-read
returns-clause-read c = reading-canonical_text

pub returns-clause-one_value : goal.returns-clause-one_value
returns-clause-one_value c = canonical_text-injective
