use Rattle.std.proofs.Common.{◌≡◌, ◌≤◌, ◌*◌, flat_map, length, take}
use Rattle.rec_format.specs.Models.{row}
use Rattle.rec_format.proofs.lengths.rows_len.Given as goal

abbrev pub invariant-loop-row : goal.invariant-loop-row
invariant-loop-row l = (l.len ≡ length (flat_map row.write (take l.row-index l.rows))) × (l.len ≤ 10000000 * l.row-index)
