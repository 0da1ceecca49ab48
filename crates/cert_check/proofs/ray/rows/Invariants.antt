use Rattle.std.proofs.Common.{◌≡◌, ◌+◌, drop}
use Rattle.std.specs.List.{enumerate_from, flat_map}
use Rattle.solve_defs.specs.Certificates.{ray_row}
use Rattle.solve_defs.specs.Looks.{verdict_of}
use Rattle.cert_check.proofs.ray.rows.Given as goal

abbrev pub invariant-loop-place : goal.invariant-loop-place
invariant-loop-place l =
    verdict_of (flat_map (ray_row l.point l.ray) (enumerate_from (l.place + 1) (drop l.place l.rows)))
    ≡ verdict_of (flat_map (ray_row l.point l.ray) (enumerate_from 1 l.rows))
