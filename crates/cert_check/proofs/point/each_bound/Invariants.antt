use Rattle.std.proofs.Common.{◌≡◌, ◌+◌, drop, map, zip}
use Rattle.std.specs.List.{enumerate_from}
use Rattle.solve_defs.specs.Certificates.{point_bound}
use Rattle.solve_defs.specs.Looks.{verdict_of}
use Rattle.cert_check.proofs.point.each_bound.Given as goal

abbrev pub invariant-loop-place : goal.invariant-loop-place
invariant-loop-place l =
    verdict_of (map point_bound (enumerate_from (l.place + 1) (zip (drop l.place l.vars) (drop l.place l.xs)))) ≡ verdict_of (map point_bound (enumerate_from 1 (zip l.vars l.xs)))
