use Rattle.std.proofs.Common.{◌≡◌, ◌*◌, ◌≤◌, take, sum_by}
use Rattle.model_data.specs.Size.{columns_of_var}
use Rattle.model_data.proofs.sizes.columns_of_vars.Given as goal

abbrev pub invariant-loop-var : goal.invariant-loop-var
invariant-loop-var l = record { value : l.count ≡ sum_by columns_of_var (take l.var-index l.vars); bound : l.count ≤ 2 * l.var-index }
