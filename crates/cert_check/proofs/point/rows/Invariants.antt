use Rattle.std.proofs.Common.{◌≡◌, ◌+◌, drop, map}
use Rattle.std.specs.List.{enumerate_from}
use Rattle.solve_defs.specs.Certificates.{point_row}
use Rattle.solve_defs.specs.Looks.{verdict_of}
use Rattle.cert_check.proofs.point.rows.Given as goal

abbrev pub invariant-loop-place : goal.invariant-loop-place
invariant-loop-place l =
    verdict_of (map (point_row l.xs) (enumerate_from (l.place + 1) (drop l.place l.rows))) ≡ verdict_of (map (point_row l.xs) (enumerate_from 1 l.rows))
