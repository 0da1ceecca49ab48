-- The ranges of parameters, and what is usual.
use Rattle.std.specs.Prelude.{◌^◌, ◌≤◌, pos, neg_ℤ, ◌≤ℤ◌}
use Rattle.model_data.specs.declared.limits.TheConstants.{MAX_DETAIL, MAX_ITERATIONS, MAX_NODES, MAX_PRIORITY, MAX_WORK}
use Rattle.model_data.specs.declared.params.Params.{Params}

-- each parameter is in its range
pub record IsInRange (p : Params) : Type 0 where
  pub iterations : p.iterations ≤ MAX_ITERATIONS
  pub nodes : p.nodes ≤ MAX_NODES
  pub work : p.work ≤ MAX_WORK
  pub priority_low : neg_ℤ MAX_PRIORITY ≤ℤ p.priority
  pub priority_high : p.priority ≤ℤ MAX_PRIORITY
  pub detail : p.detail ≤ MAX_DETAIL

abbrev pub usual_params : Params
usual_params = record { iterations = 100000; nodes = 10000; work = 10 ^ 12; priority = pos 0; detail = 0 }
