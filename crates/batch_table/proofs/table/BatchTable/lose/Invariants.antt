use Rattle.std.proofs.Common.{◌≡◌, drop}
use Rattle.table_defs.specs.Table.{lost}
use Rattle.batch_table.proofs.table.BatchTable.lose.Given as goal

abbrev pub invariant-loop-item : goal.invariant-loop-item
invariant-loop-item l = lost (drop l.item-index l.items) l.self.table ≡ lost l.items l.fn.self.table
