use Rattle.std.proofs.Common.{◌≡◌, ◌++◌, drop, map, take}
use Rattle.model_core.specs.Effect.{in_row, without_place}
use Rattle.model_core.proofs.deletion.drop_from_rows.Given as goal

abbrev pub invariant-loop-row : goal.invariant-loop-row
invariant-loop-row l = take l.row-index l.rows ++ map (in_row (without_place l.var)) (drop l.row-index l.rows) ≡ map (in_row (without_place l.var)) l.initial.rows
