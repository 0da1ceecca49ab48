use Rattle.std.proofs.Common.{◌≡◌, drop}
use Rattle.frac128.specs.Fraction.{zero_value}
use Rattle.solve_defs.specs.Certificates.{row_steps}
use Rattle.solve_defs.specs.Looks.{formed}
use Rattle.cert_check.proofs.values.row_sum.Given as goal

abbrev pub invariant-loop-term : goal.invariant-loop-term
invariant-loop-term l = formed l.sum (row_steps (drop l.term-index l.terms) l.xs) ≡ formed zero_value (row_steps l.terms l.xs)
