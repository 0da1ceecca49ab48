-- What the fields of a solve mean.
use Rattle.branch_tree.specs.Solves.{Solve}
use Rattle.branch_tree.specs.Stage.{progress_of}
use Rattle.branch_tree.specs.declared.solving.Solving.TheInside.{Inside}

abbrev pub solve_of : Inside → Solve
solve_of i = record { model = i.search.model; params = i.search.params; progress = progress_of i.done i.search.search }
