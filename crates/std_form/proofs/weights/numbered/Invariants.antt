use Rattle.std.proofs.Common.{◌≡◌, ◌++◌, suc, drop}
use Rattle.solve_defs.specs.StandardForm.{numbered}
use Rattle.std_form.proofs.weights.numbered.Given as goal

abbrev pub invariant-loop-place : goal.invariant-loop-place
invariant-loop-place l = l.all.items ++ numbered (suc l.place) (drop l.place l.weights) ≡ numbered 1 l.weights
