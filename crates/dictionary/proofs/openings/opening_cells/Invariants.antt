use Rattle.std.proofs.Common.{◌≡◌, ◌*◌, length, map, take}
use Rattle.dictionary.specs.Cells.{opening_row, rows_of}
use Rattle.dictionary.proofs.openings.opening_cells.Given as goal

abbrev pub invariant-loop-row : goal.invariant-loop-row
invariant-loop-row l =
    (rows_of l.width l.row-index l.cells.items ≡ map (opening_row l.artificial) (take l.row-index l.rows)) × (length l.cells.items ≡ l.row-index * l.width)
