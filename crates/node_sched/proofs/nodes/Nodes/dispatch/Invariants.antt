use Rattle.std.proofs.Common.{◌≡◌, ◌≤◌, ◌+◌, ◌++◌, length, vec_capacity, vec_len}
use Rattle.node_sched.specs.Schedule.{place, settled}
use Rattle.node_sched.proofs.nodes.Nodes.dispatch.Given as goal

abbrev pub invariant-loop : goal.invariant-loop
invariant-loop l = record {
  placed : l.out.items ++ place l.self ≡ l.initial.out.items ++ place l.initial.self;
  schedule : settled (place l.self) l.self ≡ settled (place l.initial.self) l.initial.self;
  room : vec_len l.out + length l.self.waiting ≤ vec_capacity l.out;
}

abbrev pub decreases-loop : goal.decreases-loop
decreases-loop l = length l.self.waiting
