use Rattle.std.proofs.Common.{◌≡◌}
use Rattle.solve_defs.specs.Plain.{Search, going}
use Rattle.tree_tests.proofs.runs.told.Given as goal

abbrev pub invariant-loop-turn : goal.invariant-loop-turn
invariant-loop-turn g l = (s : Search) × (l.solving.progress ≡ going s)
