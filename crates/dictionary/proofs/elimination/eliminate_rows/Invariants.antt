use Rattle.std.proofs.Common.{◌≡◌, ◌-◌, ◌*◌, drop}
use Rattle.dictionary.specs.Cells.{rows_of}
use Rattle.dictionary.specs.Dictionary.{each, eliminated_basic}
use Rattle.dictionary.proofs.InOrder.{each_onto}
use Rattle.dictionary.proofs.elimination.eliminate_rows.Given as goal

abbrev pub invariant-loop-row : goal.invariant-loop-row
invariant-loop-row l =
    each_onto (rows_of l.width l.row l.cells) (eliminated_basic l.column l.solved) (rows_of l.width (l.count - l.row) (drop (l.row * l.width) l.cells))
    ≡ each (eliminated_basic l.column l.solved) (rows_of l.width l.count l.initial.cells)
