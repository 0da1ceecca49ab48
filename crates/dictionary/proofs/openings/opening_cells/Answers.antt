use Rattle.std.proofs.Common.{rules}
use Rattle.dictionary.specs.Cells.{opening_row}
use Rattle.dictionary.proofs.CellRows.{pushed_one_on}
use Rattle.dictionary.proofs.openings.opening_cells.Goals as goal

pub loop-row-preserved : goal.loop-row-preserved
loop-row-preserved c =
    pushed_one_on (opening_row c.args.artificial.now) c.args.width c.loop-row.row-index c.args.rows.now c.row-item.result c.loop-row.cells.items c.push_row.new.cells.items
    c.loop-row-test.true c.row-item.is (search rules) (search rules) c.loop-row.invariant
