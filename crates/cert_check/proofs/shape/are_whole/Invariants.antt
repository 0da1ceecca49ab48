use Rattle.std.proofs.Common.{◌≡◌, ◌≤◌, suc, drop}
use Rattle.solve_defs.specs.Certificates.{are_whole}
use Rattle.cert_check.proofs.shape.are_whole.Given as goal

abbrev pub invariant-loop-node : goal.invariant-loop-node
invariant-loop-node l = record { same : are_whole l.missing (drop l.node-index l.nodes) ≡ are_whole 1 l.nodes; bound : l.missing ≤ suc l.node-index }
