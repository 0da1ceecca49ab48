use Rattle.std.proofs.Common.{◌≤◌, IfSome}
use Rattle.enough_limits.specs.declared.nodes.TheConstants.{MOST_LEAVES}
use Rattle.enough_limits.proofs.Leaves.{Leaves}
use Rattle.enough_limits.proofs.nodes.node_bound.Given as goal

abbrev pub invariant-loop-var : goal.invariant-loop-var
invariant-loop-var l = record { most : IfSome l.leaves (λ n. n ≤ MOST_LEAVES); leaves : Leaves l.m l.var-index l.leaves }
