use Rattle.std.proofs.Common.{◌≡◌, ◌+◌, ◌*◌, ◌≤◌}
use Rattle.model_data.specs.declared.limits.TheConstants.{MAX_ITERATIONS}
use Rattle.limit_defs.specs.Counts.{choose}
use Rattle.enough_limits.proofs.pivots.twice_the_ways.Given as goal

abbrev pub invariant-loop-step : goal.invariant-loop-step
invariant-loop-step l = record { value : l.twice ≡ 2 * choose (l.many + l.step) l.step; most : l.twice ≤ MAX_ITERATIONS; within : l.step ≤ l.few }
