use Rattle.std.proofs.Common.{◌≡◌, ◌≤◌, ◌-◌, ◌^◌}
use Rattle.replay_command.proofs.Replaying.{Goes}
use Rattle.replay_command.proofs.command.replay.Given as goal

abbrev pub invariant-loop-line : goal.invariant-loop-line
invariant-loop-line g l = record {
  goes : Goes l.standing (g.S.Source.left l.fn.source) (g.S.Source.left l.source) (g.K.Sink.contents l.fn.sink) (g.K.Sink.contents l.sink) l.reader;
  same_source : g.S.Source.name l.source ≡ g.S.Source.name l.fn.source;
  same_sink : g.K.Sink.name l.sink ≡ g.K.Sink.name l.fn.sink;
  source_later : g.S.Source.faults l.fn.source ≤ g.S.Source.faults l.source;
  sink_later : g.K.Sink.faults l.fn.sink ≤ g.K.Sink.faults l.sink;
}

abbrev pub decreases-loop-line : goal.decreases-loop-line
decreases-loop-line g l = 2 ^ 40 - l.reader.given
