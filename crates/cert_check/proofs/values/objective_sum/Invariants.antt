use Rattle.std.proofs.Common.{◌≡◌, drop}
use Rattle.solve_defs.specs.Looks.{formed}
use Rattle.cert_check.specs.Sums.{terms_at}
use Rattle.cert_check.proofs.values.objective_sum.Given as goal

abbrev pub invariant-loop-place : goal.invariant-loop-place
invariant-loop-place l = formed l.sum (terms_at (drop l.place l.vars) (drop l.place l.xs)) ≡ formed l.constant (terms_at l.vars l.xs)
