use Rattle.model_data.specs.Kept.{IsKeptVar}
use Rattle.model_data.proofs.Items.{AllWithin-item}
use Rattle.model_data.proofs.kept.kept_vars.Goals as goal

pub loop-var-preserved : goal.loop-var-preserved
loop-var-preserved c = AllWithin-item IsKeptVar _ _ _ c.loop-var-test.true c.var-item.is c.kept_var.ensures c.loop-var.invariant
