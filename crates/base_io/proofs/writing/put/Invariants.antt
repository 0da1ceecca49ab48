use Rattle.std.proofs.Common.{length, ◌-◌, ◌≡◌, ◌≤◌, take}
use Rattle.base_names.specs.Outside.{Writes}
use Rattle.base_io.proofs.writing.put.Given as goal

-- the front up to `at` is written, and no fault is lost
abbrev pub invariant-loop-at : goal.invariant-loop-at
invariant-loop-at g l = record {
  same : g.K.Sink.name l.sink ≡ g.K.Sink.name l.fn.sink;
  in_range : l.at ≤ length l.bytes;
  written : Writes (g.K.Sink.contents l.fn.sink) (g.K.Sink.contents l.sink) (take l.at l.bytes);
  later : g.K.Sink.faults l.fn.sink ≤ g.K.Sink.faults l.sink;
}

abbrev pub decreases-loop-at : goal.decreases-loop-at
decreases-loop-at g l = length l.bytes - l.at
