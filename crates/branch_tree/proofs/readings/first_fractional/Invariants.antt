use Rattle.std.proofs.Common.{◌≡◌, drop}
use Rattle.solve_defs.specs.Plain.{first_fractional}
use Rattle.branch_tree.proofs.readings.first_fractional.Given as goal

abbrev pub invariant-loop-place : goal.invariant-loop-place
invariant-loop-place l = first_fractional l.place (drop l.place l.m.vars) (drop l.place l.xs) ≡ first_fractional 0 l.m.vars l.xs
