use Rattle.cert_tests.proofs.Written.{can_be_written}
use Rattle.cert_tests.proofs.texts.short_proof.Goals as goal

pub returns : goal.returns
returns c = can_be_written _ c.read.result c.read.ensures.right
