-- One turn of a solve, where only its end is looked at.
use Rattle.std.specs.Prelude.{◌≡◌, Bool}
use Rattle.solve_defs.specs.Plain.{Turn}
use Rattle.branch_tree.specs.Solves.{Solve, is_over}

-- The turn was made, of the same model within the same limits, and it ended the solve or not.
pub record Turns (t : Turn) (ended : Bool) (old new : Solve) : Type 0 where
  pub ends : ended ≡ is_over t.progress
  pub progress : new.progress ≡ t.progress
  pub model : new.model ≡ old.model
  pub params : new.params ≡ old.params
