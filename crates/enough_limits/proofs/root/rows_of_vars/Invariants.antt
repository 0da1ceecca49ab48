use Rattle.std.proofs.Common.{◌≡◌, ◌≤◌, take, sum_by}
use Rattle.enough_limits.specs.Bounds.{rows_of_var}
use Rattle.enough_limits.proofs.root.rows_of_vars.Given as goal

abbrev pub invariant-loop-var : goal.invariant-loop-var
invariant-loop-var l = record { value : l.count ≡ sum_by rows_of_var (take l.var-index l.vars); most : l.count ≤ l.var-index }
