use Rattle.std.proofs.Common.{◌≡◌, ◌≤◌, ◌-◌, ◌+◌, ◌^◌}
use Rattle.session.proofs.Conversing.{Goes}
use Rattle.session.proofs.FrameBytes.{waits}
use Rattle.session.proofs.talking.converse.Given as goal

abbrev pub invariant-loop-line : goal.invariant-loop-line
invariant-loop-line g l = record {
  goes : Goes l.fn.session.seat l.fn.reader l.session (g.E.Desk.mine l.fn.desk) (g.E.Desk.mine l.desk) (g.E.Desk.fulls l.fn.desk) (g.E.Desk.fulls l.desk) (g.S.Source.left l.fn.source) (g.S.Source.left l.source) (g.K.Sink.contents l.fn.sink) (g.K.Sink.contents l.sink) l.reader;
  same_desk : g.E.Desk.name l.desk ≡ g.E.Desk.name l.fn.desk;
  same_source : g.S.Source.name l.source ≡ g.S.Source.name l.fn.source;
  same_sink : g.K.Sink.name l.sink ≡ g.K.Sink.name l.fn.sink;
  source_later : g.S.Source.faults l.fn.source ≤ g.S.Source.faults l.source;
  sink_later : g.K.Sink.faults l.fn.sink ≤ g.K.Sink.faults l.sink;
}

abbrev pub decreases-loop-line : goal.decreases-loop-line
decreases-loop-line g l = 2 ^ 40 - l.reader.given + waits l.reader.waiting
