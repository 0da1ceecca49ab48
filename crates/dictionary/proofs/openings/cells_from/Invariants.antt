use Rattle.std.proofs.Common.{◌≡◌, ◌*◌, length, map, take}
use Rattle.dictionary.specs.Cells.{opening_row, rows_of}
use Rattle.dictionary.proofs.openings.cells_from.Given as goal

abbrev pub invariant-loop-row : goal.invariant-loop-row
invariant-loop-row l =
    (rows_of l.width (length l.yielded) l.cells.items ≡ map (opening_row l.artificial) (take (length l.yielded) l.fn.rows.items))
    × (length l.cells.items ≡ length l.yielded * l.width)
