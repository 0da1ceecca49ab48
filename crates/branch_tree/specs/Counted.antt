-- Counts of a search, what a pivot makes of them, and why a search stops.
use Rattle.std.specs.Prelude.{◌≡◌, ℕ, nat_lt, Option, Some, None, Result, Ok, Err, if◌then◌else◌}
use Rattle.dictionary.specs.Dictionary.{Dictionary}
use Rattle.model_data.specs.declared.solution.Cert.TheVariants.{Nothing}
use Rattle.solve_defs.specs.Plain.{Node, Progress, Search, Turn, going, no_events, outcome, over, silent}
use Rattle.branch_tree.specs.declared.counts.Counts.{Counts}
use Rattle.branch_tree.specs.declared.counts.Stop.{Stop}

pub record IsCounted (counts : Counts) (s : Search) : Type 0 where
  pub pivots : s.pivots ≡ counts.pivots
  pub nodes : s.nodes ≡ counts.nodes
  pub work : s.work ≡ counts.work

-- the end with the best point so far, and nothing that is claimed of it
abbrev pub stopped_by : Stop → Search → Progress
stopped_by stop s = over (outcome stop.status s s.incumbent stop.wide) Nothing

-- the search behind a pivot, with the run's dictionary
abbrev pub behind_pivot : Counts → Dictionary → Search → Node → Search
behind_pivot counts d s node = record s { pivots = counts.pivots; work = counts.work; node = Some (record node { dictionary = d }) }

-- the turn that is told so
abbrev pub told : Result (Option ℕ) Stop → Search → Turn
told (Ok simplex) s = record { events = record no_events { simplex = simplex }; progress = going s }
told (Err stop) s = silent (stopped_by stop s)

abbrev pub within_limit : ℕ → ℕ → Option ℕ
within_limit n limit = if nat_lt limit n then None else Some n
