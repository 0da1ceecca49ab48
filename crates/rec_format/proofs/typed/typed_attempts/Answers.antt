use Rattle.model_data.proofs.Items.{AllWithin-item}
use Rattle.rec_format.specs.Lawful.{IsAttempt}
use Rattle.rec_format.proofs.typed.typed_attempts.Goals as goal

pub loop-of-preserved : goal.loop-of-preserved
loop-of-preserved c = AllWithin-item IsAttempt _ _ _ c.loop-of-test.true c.of-item.is c.typed_attempt.ensures c.loop-of.invariant
