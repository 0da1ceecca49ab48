use Rattle.model_data.specs.Kept.{IsKeptRow}
use Rattle.model_data.proofs.Items.{AllWithin-item}
use Rattle.model_data.proofs.kept.kept_rows.Goals as goal

pub loop-row-preserved : goal.loop-row-preserved
loop-row-preserved c = AllWithin-item IsKeptRow _ _ _ c.loop-row-test.true c.row-item.is c.kept_row.ensures c.loop-row.invariant
