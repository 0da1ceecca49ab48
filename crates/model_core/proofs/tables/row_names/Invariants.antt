use Rattle.std.proofs.Common.{◌≡◌, map, take}
use Rattle.model_data.specs.declared.model.Row.{Row}
use Rattle.model_core.proofs.tables.row_names.Given as goal

abbrev pub invariant-loop-row : goal.invariant-loop-row
invariant-loop-row l = l.names.texts ≡ map (λ (x : Row). x.name) (take l.row-index l.rows)
