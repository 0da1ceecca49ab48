use Rattle.std.proofs.Common.{◌≡◌, None, take}
use Rattle.table_defs.specs.Taken.{lost_refusal}
use Rattle.batch_table.proofs.table.BatchTable.test_lost.Given as goal

abbrev pub invariant-loop-place : goal.invariant-loop-place
invariant-loop-place l = lost_refusal (take l.place l.items) l.self.table ≡ None
