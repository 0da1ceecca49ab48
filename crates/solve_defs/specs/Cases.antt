-- The points of a part of the search: those of the model that are within the cuts on the way to it.
use Rattle.std.specs.Prelude.{ℕ, List, slice_index_or, All, ℤ, pos}
use Rattle.model_data.specs.declared.model.Model.{Model}
use Rattle.solve_defs.specs.Bounds.{cut_bounds}
use Rattle.solve_defs.specs.Points.{IsFeasible, IsWithin, quotient}
use Rattle.solve_defs.specs.declared.cut.Cut.{Cut}

-- the value of the cut's variable is within the cut
abbrev pub IsWithinCut : List ℤ → ℕ → Cut → Type 0
IsWithinCut X d cut = IsWithin (cut_bounds cut) (quotient (slice_index_or X cut.var (pos 0)) d)

-- X / d is a feasible point of the model that is within each of the cuts
pub record IsCasePoint (m : Model) (cuts : List Cut) (X : List ℤ) (d : ℕ) : Type 0 where
  pub feasible : IsFeasible m X d
  pub within : All (IsWithinCut X d) cuts
