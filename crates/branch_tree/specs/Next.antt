-- What comes behind a finished node, as the plain solver has it.
use Rattle.std.specs.Prelude.{◌≡◌, ◌<◌, ◌∷◌, drop, Option, Some, None}
use Rattle.model_data.specs.declared.model.Model.{Model}
use Rattle.model_data.specs.declared.solution.Point.{Point}
use Rattle.model_data.specs.declared.solution.SolEvent.{SolEvent}
use Rattle.simplex_rule.specs.OnPath.{IsOnPath}
use Rattle.solve_defs.specs.Ends.{structural_count}
use Rattle.solve_defs.specs.Plain as defs
use Rattle.solve_defs.specs.StandardForm.{column_count, shapes_of}
use Rattle.branch_tree.specs.Counted.{stopped_by}
use Rattle.branch_tree.specs.Stage.{Stage}
use Rattle.branch_tree.specs.declared.counts.Counts.{Counts}
use Rattle.branch_tree.specs.declared.finishing.Next.{Next}
use Rattle.branch_tree.specs.declared.finishing.Next.TheVariants.{Node, Stopped, Nothing}

-- the best point, where this one comes
abbrev pub kept : Option Point → Option Point → Option Point
kept None best = best
kept (Some point) best = Some point

-- what is told of it, where the counts are those behind its node
abbrev pub told_of : Model → defs.Search → Option Point → Option SolEvent
told_of m s None = None
told_of m s (Some point) = defs.sol_event m s point.value

-- where a search stands, behind what comes
abbrev pub next_as : defs.Search → Next → defs.Progress
next_as s (Node cuts run) = defs.going (record s { waiting = drop 1 s.waiting; node = Some record { cuts = cuts.items; dictionary = run } })
next_as s (Stopped stop) = stopped_by stop s
next_as s Nothing = defs.finished s

-- A node that comes is the one that waits first, and within the limits.
abbrev pub IsReady : Counts → Stage → Next → Type 0
IsReady counts stage (Node cuts run) =
    (stage.search.waiting ≡ cuts.items ∷ drop 1 stage.search.waiting) × IsOnPath run
    × (structural_count run ≡ column_count (shapes_of stage.model cuts.items)) × (counts.nodes < stage.params.nodes)
IsReady counts stage (Stopped stop) = Unit {0}
IsReady counts stage Nothing = Unit {0}
