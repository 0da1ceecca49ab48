-- What an outcome says of its model.
use Rattle.std.specs.Prelude.{◌≡◌, false, [], Some}
use Rattle.model_data.specs.declared.model.Model.{Model}
use Rattle.model_data.specs.declared.solution.Outcome.{Outcome}
use Rattle.model_data.specs.declared.solution.Point.{Point}
use Rattle.solve_defs.specs.Kinds.{are_continuous}
use Rattle.solve_defs.specs.Points.{HasNoPoint, IsBestPoint, IsFeasiblePoint, IsUnbounded, relaxation}
use Rattle.solve_defs.specs.declared.status.TheConstants.{INFEASIBLE, INF_OR_UNBD, OPTIMAL, UNBOUNDED}

-- What the outcome says is so: by its status, and of the point that is kept with any status.
pub record IsSo (m : Model) (o : Outcome) : Type 0 where
  pub optimal : o.status ≡ OPTIMAL → (point : Point) × (o.point ≡ Some point) × IsBestPoint m point
  pub infeasible : o.status ≡ INFEASIBLE → HasNoPoint m
  pub unbounded : o.status ≡ UNBOUNDED → IsUnbounded m
  pub relaxed : o.status ≡ INF_OR_UNBD → (are_continuous m.vars ≡ false) × IsUnbounded (relaxation m [])
  pub point : (point : Point) → o.point ≡ Some point → IsFeasiblePoint m point
