use Rattle.std.proofs.Common.{◌≡◌, length, sum_by, take}
use Rattle.model_data.specs.declared.model.Row.{Row}
use Rattle.model_core.proofs.deletion.count_terms.Given as goal

abbrev pub invariant-loop-row : goal.invariant-loop-row
invariant-loop-row l = l.count ≡ sum_by (λ (r : Row). length r.terms) (take l.row-index l.row-items)
