use Rattle.std.proofs.Common.{◌≡◌, ◌*◌, length, map, drop}
use Rattle.std.specs.Prelude.{remove}
use Rattle.dictionary.specs.Cells.{rows_of}
use Rattle.dictionary.proofs.removal.remove_column.Given as goal

abbrev pub invariant-loop-row : goal.invariant-loop-row
invariant-loop-row l =
    (rows_of l.narrow l.row l.cells.items ≡ map (λ row. remove row l.column) (rows_of l.width l.row l.initial.cells.items))
    × (drop (l.row * l.width) l.cells.items ≡ drop (l.row * l.width) l.initial.cells.items)
    × (length l.cells.items ≡ length l.initial.cells.items)
