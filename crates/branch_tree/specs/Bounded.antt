-- The bounds that a solve keeps on its way.
use Rattle.std.specs.Prelude.{◌≡◌, ℕ}
use Rattle.node_laws.specs.Bounds.{KeepsBounds}
use Rattle.solve_defs.specs.Plain.{cut_off, going, run, start}
use Rattle.branch_tree.specs.Solves.{Solve}

-- Turns of the plain solver have led there from the start. So the outcome keeps the bounds of the model, as the solve ended, or cut here.
pub record IsBounded (s : Solve) : Type 0 where
  pub turns : ℕ
  pub progress : (run s.model s.params turns (going start)).progress ≡ s.progress
  pub bounds : KeepsBounds s.model s.params (cut_off s.progress).outcome
