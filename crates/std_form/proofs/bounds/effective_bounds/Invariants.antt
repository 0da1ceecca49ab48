use Rattle.std.proofs.Common.{◌≡◌, take}
use Rattle.solve_defs.specs.Bounds.{bounds_from}
use Rattle.std_form.proofs.bounds.effective_bounds.Given as goal

abbrev pub invariant-loop-cut : goal.invariant-loop-cut
invariant-loop-cut l = l.bounds.items ≡ bounds_from 0 l.vars (take l.cut-index l.cuts)
