use Rattle.std.proofs.Common.{◌≡◌, ◌≤◌, [], ◌∷◌, List, drop}
use Rattle.solve_defs.specs.Certificates.{Subtree, tree_looks, under}
use Rattle.solve_defs.specs.Looks.{verdict_of}
use Rattle.cert_check.specs.Walks.{IsToCome, ahead}
use Rattle.cert_check.proofs.Walked.{Underway}
use Rattle.cert_check.proofs.tree.tree_looks.Given as goal

abbrev pub invariant-loop-node : goal.invariant-loop-node
invariant-loop-node l = Underway l.m l.value l.nodes l.node-index l.walk
